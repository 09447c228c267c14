-- Laws of strictly ascending lists. Assumes nothing.
use Rattle.std.specs.Prelude.{Bool, true, ◌⊎◌, refl, ◌≡◌, suc, zero, ℕ, ◌+◌, ◌<◌, ◌≤◌, length}
use mathlib.Core.List.Memᴰ
use mathlib.Core.List.{List, Memᴰ, [], map, ◌++◌, ◌∷◌}
use Rattle.std.proofs.Common.{inl, inr, ap₂, subst, sym, add-suc, arith}
use borrow.Table.Steps.{cases}
use Rattle.ground.specs.Filters.{Each, filter}
use Rattle.ground.specs.Laws.Filters.{filter_none}
use Rattle.ground.specs.Ascending.{Between}
use Rattle.ground.specs.Ranges.{from}

pub between_append : (m k h : ℕ) (l r : List ℕ) → Between m l k → Between k r h → Between m (l ++ r) h
between_append m k h [] [] p q = omega arith
between_append m k h [] (y ∷ r) p q = (omega arith, q.1)
between_append m k h (x ∷ l) r p q = (p.0, between_append (suc x) k h l r p.1 q)

-- what stands before the last
pub between_init : (m k x : ℕ) (l : List ℕ) → Between m (l ++ (x ∷ [])) k → Between m l x
between_init m k x [] b = b.0
between_init m k x (y ∷ l) b = (b.0, between_init (suc y) k x l b.1)

pub between_map : (c m k : ℕ) (l : List ℕ) → Between m l k → Between (c + m) (map (λ x. c + x) l) (c + k)
between_map c m k [] p = omega arith
between_map c m k (x ∷ l) p = (omega arith, rw (← (add-suc c x)) (between_map c (suc x) k l p.1))

-- from a lower start
pub between_from : (m n k : ℕ) (l : List ℕ) → m ≤ n → Between n l k → Between m l k
between_from m n k [] h p = omega arith
between_from m n k (x ∷ l) h p = (omega arith, p.1)

-- a range ascends
pub from_between : (i m : ℕ) → Between i (from i m) (i + m)
from_between i zero = omega arith
from_between i (suc m) = (omega arith, let e : i + suc m ≡ suc i + m = omega arith in rw e (from_between (suc i) m))

pub between_filter : (p : ℕ → Bool) (m k : ℕ) (l : List ℕ) → Between m l k → Between m (filter p l) k
between_filter p m k [] b = b
between_filter p m k (x ∷ l) b =
    let r = between_filter p (suc x) k l b.1 in
    cases (p x) (λ e. rw e (b.0, r)) (λ e. rw e (between_from m (suc x) k (filter p l) (omega arith) r))

pub between_le : (m k : ℕ) (l : List ℕ) → Between m l k → m ≤ k
between_le m k [] b = b
between_le m k (x ∷ l) b = omega (arith, between_le (suc x) k l b.1)

pub between_mem : (m k : ℕ) (l : List ℕ) → Between m l k → Each l (λ x. (m ≤ x) × (x < k))
between_mem m k [] b x h = absurd (Memᴰ.not-nil h)
between_mem m k (y ∷ l) b x h = go (Memᴰ.cases_cons h) (between_mem (suc y) k l b.1 x)
  where
    go : (x ≡ y) ⊎ Memᴰ x l → (Memᴰ x l → (suc y ≤ x) × (x < k)) → (m ≤ x) × (x < k)
    go (inl e) ih = (omega arith, omega (arith, between_le (suc y) k l b.1))
    go (inr t) ih = omega (arith, ih t)

-- at most one element passes a test that no two elements pass
pub filter_once : (p : ℕ → Bool) (m k : ℕ) (l : List ℕ) → Between m l k
    → ((x y : ℕ) → Memᴰ x l → Memᴰ y l → x < y → p x ≡ true → p y ≡ true → ⊥) → length (filter p l) ≤ 1
filter_once p m k [] b h = omega arith
filter_once p m k (x ∷ l) b h =
    cases (p x)
    (λ e. rw (
      e,
      filter_none p l
          (λ y t. cases (p y) (λ f. absurd (h x y (Memᴰ.head refl) (Memᴰ.tail t) (between_mem (suc x) k l b.1 y t).0 e f)) (λ f. f)),
    ) (omega arith))
    (λ e. rw e (filter_once p (suc x) k l b.1 (λ u v s t. h u v (Memᴰ.tail s) (Memᴰ.tail t))))

-- two ascending lists with the same elements are one
pub between_ext : (m k : ℕ) (l r : List ℕ) → Between m l k → Between m r k → Each l (λ x. Memᴰ x r) → Each r (λ x. Memᴰ x l) → l ≡ r
between_ext m k [] [] a b p q = refl
between_ext m k [] (y ∷ r) a b p q = absurd (Memᴰ.not-nil (q y (Memᴰ.head refl)))
between_ext m k (x ∷ l) [] a b p q = absurd (Memᴰ.not-nil (p x (Memᴰ.head refl)))
between_ext m k (x ∷ l) (y ∷ r) a b p q =
    ap₂ ◌∷◌ same (between_ext (suc x) k l r a.1 (subst (λ z. Between (suc z) r k) (sym same) b.1)
    (λ z t. drop z y r (omega (arith, same, between_mem (suc x) k l a.1 z t)) (p z (Memᴰ.tail t)))
    (λ z t. drop z x l (omega (arith, same, between_mem (suc y) k r b.1 z t)) (q z (Memᴰ.tail t))))
  where
    low : (x y : ℕ) (r : List ℕ) → Between (suc y) r k → (x ≡ y) ⊎ Memᴰ x r → y ≤ x
    low x y r b (inl e) = omega arith
    low x y r b (inr t) = omega (arith, between_mem (suc y) k r b x t)

    same : x ≡ y
    same =
        omega (arith, low x y r b.1 (Memᴰ.cases_cons (p x (Memᴰ.head refl))), low y x l a.1 (Memᴰ.cases_cons (q y (Memᴰ.head refl))))

    tail : (z y : ℕ) (r : List ℕ) → y < z → (z ≡ y) ⊎ Memᴰ z r → Memᴰ z r
    tail z y r h (inl e) = absurd (omega arith)
    tail z y r h (inr t) = t

    drop : (z y : ℕ) (r : List ℕ) → y < z → Memᴰ z (y ∷ r) → Memᴰ z r
    drop z y r h t = tail z y r h (Memᴰ.cases_cons t)
