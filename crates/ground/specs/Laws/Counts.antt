-- Laws of how many numbers pass a test. Assumes nothing.
use Rattle.std.specs.Prelude.{Bool, false, true, refl, ◌≡◌, suc, zero, ℕ, ◌+◌, ◌-◌, ◌<◌, ◌≤◌, eqb, leb}
use mathlib.Core.List.{List, Memᴰ, [], ◌∷◌}
use Rattle.std.proofs.Common.{arith, eq-eqb, eqb-true, leb-false, leb-true, ne_eqb}
use borrow.Table.Steps.{cases}
use Rattle.ground.specs.Ascending.{Between}
use Rattle.ground.specs.Sums.{sum}
use Rattle.ground.specs.Laws.Sums.{sum-add, sum_zero}
use Rattle.ground.specs.Counts.{count, one_if}

pub one_if_le : (b : Bool) → one_if b ≤ 1
one_if_le true = omega arith
one_if_le false = omega arith

-- at least v, where v in a row pass
pub count-row : (p : ℕ → Bool) (N lo v : ℕ) → ((t : ℕ) → lo ≤ t → t < lo + v → p t ≡ true) → lo + v ≤ N → v ≤ count N p
count-row p zero lo v h l = omega arith
count-row p (suc N) lo zero h l = omega arith
count-row p (suc N) lo (suc v) h l =
    cases (leb (suc (lo + v)) N)
    (λ e. omega (arith, count-row p N lo (suc v) h (omega (arith, leb-true))))
    (λ e. rw (h N (omega arith) (omega (arith, leb-false))) (omega (arith, count-row p N lo v (λ t a b. h t a (omega arith)) (omega arith))))

pub sum_miss : (m k x : ℕ) (l : List ℕ) → x < m → Between m l k → sum l (λ y. one_if (eqb x y)) ≡ 0
sum_miss m k x [] h b = refl
sum_miss m k x (y ∷ l) h b = rw (ne_eqb x y (λ e. omega arith)) (omega (arith, sum_miss (suc y) k x l (omega arith) b.1))

-- an ascending list has a number at most once
pub sum_eqb : (m k x : ℕ) (l : List ℕ) → Between m l k → sum l (λ y. one_if (eqb x y)) ≤ 1
sum_eqb m k x [] b = omega arith
sum_eqb m k x (y ∷ l) b =
    cases (eqb x y) (λ e. rw e (omega (arith, sum_miss (suc y) k x l (omega (arith, eqb-true)) b.1)))
    (λ e. rw e (omega (arith, sum_eqb (suc y) k x l b.1)))

-- each t counts for one element at most
pub sum-count : (c : ℕ → ℕ) (m k N : ℕ) (l : List ℕ) → Between m l k → sum l (λ y. count N (λ t. eqb (c t) y)) ≤ N
sum-count c m k zero l b = omega (arith, sum_zero l)
sum-count c m k (suc N) l b =
    omega (arith, sum-add (λ y. one_if (eqb (c N) y)) (λ y. count N (λ t. eqb (c t) y)) l, sum_eqb m k (c N) l b, sum-count c m k N l b)

-- and at most as many as lie between two bounds that hold of each t that passes
pub count_within : (p : ℕ → Bool) (M lo N hi : ℕ) → ((t : ℕ) → t < N → p t ≡ true → (lo ≤ M + t) × (M + t < hi)) → count N p ≤ hi - lo
count_within p M lo zero hi h = omega arith
count_within p M lo (suc N) hi h =
    cases (p N)
    (λ e. rw e (omega (arith, h N (omega arith) e, count_within p M lo N (M + N) (λ t l f. ((h t (omega arith) f).0, omega arith)))))
    (λ e. rw e (omega (arith, count_within p M lo N hi (λ t l f. h t (omega arith) f))))

pub sum-mem : (x : ℕ) (l : List ℕ) → Memᴰ x l → 1 ≤ sum l (λ y. one_if (eqb x y))
sum-mem x [] m = elim m [ ]
sum-mem x (y ∷ l) (Memᴰ.head e) = rw (eq-eqb x y e) (omega arith)
sum-mem x (y ∷ l) (Memᴰ.tail m) = omega (arith, sum-mem x l m)

-- where each t has its element in the list, all of them are counted
pub sum_count_all : (c : ℕ → ℕ) (N : ℕ) (l : List ℕ) → ((t : ℕ) → t < N → Memᴰ (c t) l) → N ≤ sum l (λ y. count N (λ t. eqb (c t) y))
sum_count_all c zero l h = omega arith
sum_count_all c (suc N) l h =
    omega (
      arith,
      sum-add (λ y. one_if (eqb (c N) y)) (λ y. count N (λ t. eqb (c t) y)) l,
      sum-mem (c N) l (h N (omega arith)),
      sum_count_all c N l (λ t g. h t (omega arith)),
    )
