-- Law G, image 0 is enough: where the four-point condition holds of all fours with image 0, it holds of all fours. So the first
-- four that fails has image 0 in front, and a scan need look at no other.
-- With g x y = d 0 x + d 0 y - d x y, the condition at 0, x, y, z says that of g x y, g x z, g y z the least occurs twice. Of
-- g x z, g y t, g x t, g y z some one is the greatest; the two conditions that it takes part in bound g x y and g z t from below,
-- and the sum of the two is the inequality for d at x, y, z, t. Assumes nothing.
use Rattle.std.specs.Prelude.{[], ◌⊎◌, ◌≡◌, max, min, suc, zero, ℕ, ◌+◌, ◌<◌, ◌≤◌, leb}
use Rattle.std.proofs.Common.{inl, inr, arith, leb-false, leb-true, ltb-false}
use borrow.Table.Steps.{cases}
use Rattle.ground.specs.Filters.{filter}
use Rattle.ground.specs.Laws.Filters.{none_in}
use Rattle.ground.specs.First.{first}
use Rattle.theory.specs.FourPoint.{FourPoint, fails, four, fours₁}
use Rattle.theory.proofs.Laws.FourPoint.{four_point_lem, none_above}
use Rattle.theory.proofs.Laws.Sorted.{Holds, condition_symmetric, mem-fours₁, sorted_enough}
use Rattle.theory.specs.Tables.{WellFormed}

-- g p q is at least g r q, said without subtraction
abbrev AtLeastAs : (ℕ → ℕ → ℕ) → ℕ → ℕ → ℕ → Type 0
AtLeastAs d p r q = d 0 r + d p q ≤ d 0 p + d r q

either : (d : ℕ → ℕ → ℕ) (p r q : ℕ) → AtLeastAs d p r q ⊎ AtLeastAs d r p q
either d p r q =
    cases (leb (d 0 r + d p q) (d 0 p + d r q)) (λ e. inl (leb-true (d 0 r + d p q) (d 0 p + d r q) e))
    (λ e. inr (omega (arith, leb-false (d 0 r + d p q) (d 0 p + d r q) e)))

module _ (L : ℕ) (d : ℕ → ℕ → ℕ) (n : ℕ) (c : WellFormed L d n)
    (h : (j k l : ℕ) → j < n → k < n → l < n → d 0 j + d k l ≤ max (d 0 k + d j l) (d 0 l + d j k)) where
  -- where g p q is at least g r q, so is g p r
  step : {p q r : ℕ} → p < n → q < n → r < n → AtLeastAs d p r q → d p r + d 0 q ≤ d 0 p + d r q
  step {p} {q} {r} hp hq hr e = omega (arith, h q p r hq hp hr, c.same hq hp, c.same hq hr)

  module _ {x y z t : ℕ} (hx : x < n) (hy : y < n) (hz : z < n) (ht : t < n) where
    known : (d z x ≡ d x z) × (d z y ≡ d y z) × (d t x ≡ d x t) × (d t y ≡ d y t) × (d y x ≡ d x y) × (d t z ≡ d z t)
    known = (c.same hz hx, c.same hz hy, c.same ht hx, c.same ht hy, c.same hy hx, c.same ht hz)

    -- which of the four is the greatest
    greatest : AtLeastAs d x y z ⊎ AtLeastAs d y x z → AtLeastAs d z t x ⊎ AtLeastAs d t z x
        → AtLeastAs d y x t ⊎ AtLeastAs d x y t → AtLeastAs d t z y ⊎ AtLeastAs d z t y → d x y + d z t ≤ max (d x z + d y t) (d x t + d y z)
    greatest (inl a) (inl b) e f = omega (arith, step hx hz hy a, step hz hx ht b, known)
    greatest (inl a) (inr b) (inl e) (inl f) = omega (arith, step hy ht hx e, step ht hy hz f, known)
    greatest (inl a) (inr b) (inl e) (inr f) = omega (arith, step hx hz hy a, step hz hx ht (omega (arith, known)), known)
    greatest (inl a) (inr b) (inr e) f = omega (arith, step hx ht hy e, step ht hx hz b, known)
    greatest (inr a) b e (inr f) = omega (arith, step hy hz hx a, step hz hy ht f, known)
    greatest (inr a) b (inl e) (inl f) = omega (arith, step hy ht hx e, step ht hy hz f, known)
    greatest (inr a) (inl b) (inr e) (inl f) = omega (arith, step hy hz hx a, step hz hy ht (omega (arith, known)), known)
    greatest (inr a) (inr b) (inr e) (inl f) = omega (arith, step hx ht hy e, step ht hx hz b, known)

  with_first : FourPoint d n
  with_first =
      four_point_lem d n (λ i j hi hj. c.same hi hj)
      (record { low = λ {i} {j} {k} {l} hi hj hk hl. greatest hi hj hk hl (either d i j k) (either d k l i) (either d j i l) (either d l k j) })

-- the least of four numbers is 0, one of them being 0; and the condition holds of them
abbrev HoldsWithFirst : (ℕ → ℕ → ℕ) → ℕ → ℕ → ℕ → ℕ → ℕ → Type 0
HoldsWithFirst d n i j k l = min (min i j) (min k l) ≡ 0 → Holds d n i j k l

-- G. Where no sorted four that begins with image 0 fails, none fails.
pub image_one : (L : ℕ) (d : ℕ → ℕ → ℕ) (n : ℕ) → WellFormed L d n → filter (fails d) (fours₁ n 0) ≡ [] → FourPoint d n
image_one L d n c e =
    with_first L d n c (λ j k l hj hk hl. none_above _ _ _ (all_with_first 0 j k l (omega arith) (omega arith) hj hk hl))
  where
    sorted : (i j k l : ℕ) → i ≤ j → j ≤ k → k ≤ l → HoldsWithFirst d n i j k l
    sorted zero j k l p q r m hi hj hk hl = ltb-false _ 2 (none_in (fails d) (fours₁ n 0) e (four 0 j k l) (mem-fours₁ n 0 j k l p q r hl))
    sorted (suc i) j k l p q r m hi hj hk hl = absurd (omega arith)

    all_with_first : (i j k l : ℕ) → HoldsWithFirst d n i j k l
    all_with_first = sorted_enough (HoldsWithFirst d n) (record {
      first = λ p m. (condition_symmetric L d n c).first (p (omega arith));
      middle = λ p m. (condition_symmetric L d n c).middle (p (omega arith));
      last = λ p m. (condition_symmetric L d n c).last (p (omega arith));
    }) sorted
