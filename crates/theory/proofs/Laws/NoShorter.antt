-- No ring is shorter (T-12): none at all on a table with the four-point condition, and by how much where the entries are a little off.
-- Assumes nothing.
use mathlib.Core.List.Memᴰ
use Rattle.std.specs.Prelude.{List, [], ◌∷◌, refl, ◌≡◌, suc, ℕ, ◌*◌, ◌+◌, ◌-◌, ◌<◌, ◌≤◌, length}
use Rattle.std.proofs.Common.{mul-add, mul-zero, suc-mul, arith}
use Rattle.ground.specs.Filters.{Each}
use Rattle.theory.specs.FourPoint.{FourPoint, FourPointWithin}
use Rattle.theory.proofs.Laws.FourPoint.{four_low, four_within}
use Rattle.theory.proofs.Laws.RingLeft.{order-size}
use Rattle.theory.proofs.Laws.Shortest.{ring_off}
use Rattle.theory.proofs.Laws.TakenOut.{Off}
use Rattle.theory.specs.Laws.Walk.{order-all}
use Rattle.theory.specs.Order.{AnOrder, along, closed, order}
use Rattle.theory.specs.Readings.{Near}
use Rattle.theory.specs.Tables.{WellFormed}

-- ## By the table itself

-- no ring is shorter by more than q for each image but three
pub shortest_within : (L q : ℕ) (d : ℕ → ℕ → ℕ) (n f last : ℕ) → f < n → last < n → (f ≡ last → ⊥) → WellFormed L d n → FourPointWithin q d n
    → (l : List ℕ) → AnOrder n l → closed d (order d n f last) ≤ closed d l + (n - 3) * q
shortest_within L q d n f last hf hl ne c four l a =
    let o : Off d d d n f 0 q 0 = record {
      same = λ hi hj. c.same hi hj;
      above = λ hi hj. omega arith;
      chosen = λ hx hw hu t. omega (arith, c.same hw hx);
      four = four;
    } in
    omega (arith, ring_off d d d n f 0 q 0 hf o l a last hl ne, mul-add (n - 3) 0 q, mul-zero (n - 3))

-- no ring is shorter at all
pub shortest : (L : ℕ) (d : ℕ → ℕ → ℕ) (n f last : ℕ) → f < n → last < n → (f ≡ last → ⊥) → WellFormed L d n → FourPoint d n
    → (l : List ℕ) → AnOrder n l → closed d (order d n f last) ≤ closed d l
shortest L d n f last hf hl ne c four l a = omega (arith, shortest_within L 0 d n f last hf hl ne c (four_within d n four) l a, mul-zero (n - 3))

-- whichever images are first and last, the ring costs the same
pub any_ends : (L : ℕ) (d : ℕ → ℕ → ℕ) (n : ℕ) → WellFormed L d n → FourPoint d n → (f last : ℕ) → f < n → last < n → (f ≡ last → ⊥)
    → (g end : ℕ) → g < n → end < n → (g ≡ end → ⊥) → closed d (order d n f last) ≡ closed d (order d n g end)
any_ends L d n c four f last hf hl ne g end hg he ne' =
    omega (
      arith,
      shortest L d n f last hf hl ne c four (order d n g end) (order-all d n g hg end he ne').all,
      shortest L d n g end hg he ne' c four (order d n f last) (order-all d n f hf last hl ne).all,
    )

-- ## By two tables, no entry of which differs by more than D: e, by which the order is, and d, which has the condition

module _ (L D : ℕ) (d e : ℕ → ℕ → ℕ) (n : ℕ) (four : FourPoint d n) (p : Near D d e n) where
  pub near_within : FourPointWithin (4 * D) e n
  near_within = record {
    low = λ hi hj hk hl. omega
        (arith, four_low four hi hj hk hl, p.down hi hj, p.down hk hl, p.up hi hk, p.up hj hl, p.up hi hl, p.up hj hk);
  }

  pub shortest_accepted : (f last : ℕ) → f < n → last < n → (f ≡ last → ⊥) → WellFormed L d n → (l : List ℕ) → AnOrder n l
      → closed d (order e n f last) ≤ closed d l + (n - 3) * (4 * D)
  shortest_accepted f last hf hl ne c l a =
      let o : Off e d d n f (4 * D) 0 0 = record {
        same = λ hi hj. c.same hi hj;
        above = λ hi hj. omega arith;
        chosen = λ hx hw hu t. omega (arith, p.up hx hw, p.up hf hu, p.down hx hu, p.down hf hw, c.same hw hx);
        four = four_within d n four;
      } in
      omega (arith, ring_off e d d n f (4 * D) 0 0 hf o l a last hl ne, mul-add (n - 3) (4 * D) 0, mul-zero (n - 3))

-- ## One ring by two tables

along-near : (D : ℕ) (d e : ℕ → ℕ → ℕ) (n f x : ℕ) (l : List ℕ) → Near D d e n → f < n → Each (x ∷ l) (λ i. i < n)
    → along d f x l ≤ along e f x l + suc (length l) * D
along-near D d e n f x [] p hf h = omega (arith, p.up (h x (Memᴰ.head refl)) hf)
along-near D d e n f x (y ∷ l) p hf h =
    omega (
      arith,
      p.up (h x (Memᴰ.head refl)) (h y (Memᴰ.tail (Memᴰ.head refl))),
      along-near D d e n f y l p hf (λ i m. h i (Memᴰ.tail m)),
      suc-mul (suc (length l)) D,
    )

-- a ring has n links
pub closed-near : (D : ℕ) (d e : ℕ → ℕ → ℕ) (n : ℕ) (l : List ℕ) → Near D d e n → AnOrder n l → closed d l ≤ closed e l + n * D
closed-near D d e n [] p a = omega arith
closed-near D d e n (f ∷ l) p a =
    let s = rw (order-size n (f ∷ l) a) at (along-near D d e n f f l p (a.range f (Memᴰ.head refl)) a.range) in omega (arith, s)
