-- The four-point condition as none of the three sums being above both others: what proofs use of it.
-- Assumes nothing.
use Rattle.std.specs.Prelude.{◌≡◌, max, ℕ, ◌+◌, ◌<◌, ◌≤◌, eqb, leb}
use Rattle.std.proofs.Common.{arith, eq-eqb, eqb-true, leb-false, leb-true, ne_eqb}
use Rattle.std.proofs.lemmas.Bool.{eqb-false}
use borrow.Table.Steps.{cases}
use Rattle.theory.specs.FourPoint.{FourPoint, FourPointWithin, times_largest}
use Rattle.theory.specs.Tables.{WellFormed}

pub well_formed_less : (L : ℕ) (d : ℕ → ℕ → ℕ) (m n : ℕ) → m ≤ n → WellFormed L d n → WellFormed L d m
well_formed_less L d m n h c = record {
  small = λ i j. c.small (omega arith) (omega arith);
  self = λ i. c.self (omega arith);
  same = λ i j. c.same (omega arith) (omega arith);
  nonzero = λ i j. c.nonzero (omega arith) (omega arith);
}

-- the same, as none being above both others
pub none_above : (x y z : ℕ) → 2 ≤ times_largest x y z → x ≤ max y z
none_above x y z h =
    cases (eqb x (max x (max y z)))
    (λ e. cases (eqb y (max x (max y z))) (λ f. omega (arith, eqb-true x (max x (max y z)) e, eqb-true y (max x (max y z)) f))
    (λ f. cases (eqb z (max x (max y z))) (λ g. omega (arith, eqb-true x (max x (max y z)) e, eqb-true z (max x (max y z)) g))
    (λ g. absurd (let r = rw (e, f, g) at h in omega arith))))
    (λ e. omega (arith, eqb-false x (max x (max y z)) e))

pub none_above₂ : (x y z : ℕ) → 2 ≤ times_largest x y z → y ≤ max x z
none_above₂ x y z h =
    cases (leb y (max x z)) (λ a. leb-true y (max x z) a)
    (λ a.
    let g = leb-false y (max x z) a in
    let r = rw (ne_eqb x (max x (max y z)) (λ e. omega arith), ne_eqb z (max x (max y z)) (λ e. omega arith), eq-eqb y (max x (max y z)) (omega arith)) at h in
    absurd (omega arith))

pub none_above₃ : (x y z : ℕ) → 2 ≤ times_largest x y z → z ≤ max x y
none_above₃ x y z h =
    cases (leb z (max x y)) (λ a. leb-true z (max x y) a)
    (λ a.
    let g = leb-false z (max x y) a in
    let r = rw (ne_eqb x (max x (max y z)) (λ e. omega arith), ne_eqb y (max x (max y z)) (λ e. omega arith), eq-eqb z (max x (max y z)) (omega arith)) at h in
    absurd (omega arith))

pub above_none : (x y z : ℕ) → x ≤ max y z → y ≤ max x z → z ≤ max x y → 2 ≤ times_largest x y z
above_none x y z p q r =
    cases (eqb x y) (λ e. by_two (eqb-true x y e))
    (λ e. cases (eqb x z) (λ f. let s = eqb-true x z f in
    rw (eq-eqb x (max x (max y z)) (omega arith), eq-eqb z (max x (max y z)) (omega arith)) (omega arith))
    (λ f. rw (
      eq-eqb y (max x (max y z)) (omega (arith, eqb-false x y e, eqb-false x z f)),
      eq-eqb z (max x (max y z))
          (omega (arith, eqb-false x y e, eqb-false x z f)),
    ) (omega arith)))
  where
    by_two : x ≡ y → 2 ≤ times_largest x y z
    by_two s = rw (eq-eqb x (max x (max y z)) (omega arith), eq-eqb y (max x (max y z)) (omega arith)) (omega arith)

-- the order of the three plays no part
pub largest_right : (x y z : ℕ) → 2 ≤ times_largest x y z → 2 ≤ times_largest x z y
largest_right x y z h = above_none x z y (omega (arith, none_above x y z h)) (none_above₃ x y z h) (none_above₂ x y z h)

pub largest-left : (x y z : ℕ) → 2 ≤ times_largest x y z → 2 ≤ times_largest y x z
largest-left x y z h = above_none y x z (none_above₂ x y z h) (none_above x y z h) (omega (arith, none_above₃ x y z h))

pub largest_same : (x y z x' y' z' : ℕ) → x ≡ x' → y ≡ y' → z ≡ z' → 2 ≤ times_largest x y z → 2 ≤ times_largest x' y' z'
largest_same x y z x' y' z' p q r h =
    above_none x' y' z' (omega (arith, none_above x y z h)) (omega (arith, none_above₂ x y z h)) (omega (arith, none_above₃ x y z h))

pub four_low : {d : ℕ → ℕ → ℕ} {n : ℕ} → FourPoint d n → {i j k l : ℕ} → i < n → j < n → k < n → l < n → d i j + d k l ≤ max (d i k + d j l) (d i l + d j k)
four_low fp hi hj hk hl = none_above _ _ _ (fp.twice hi hj hk hl)

-- the condition from its ≤ form
pub record NoneAbove (d : ℕ → ℕ → ℕ) (n : ℕ) : Type 0 where
  pub low : {i j k l : ℕ} → i < n → j < n → k < n → l < n → d i j + d k l ≤ max (d i k + d j l) (d i l + d j k)

pub four_point_lem : (d : ℕ → ℕ → ℕ) (n : ℕ) → ((i j : ℕ) → i < n → j < n → d i j ≡ d j i) → NoneAbove d n → FourPoint d n
four_point_lem d n same p = record {
  twice = λ {i} {j} {k} {l} hi hj hk hl.
      above_none _ _ _ (p.low hi hj hk hl)
      (omega (arith, p.low hi hk hj hl, same k j hk hj))
      (omega (arith, p.low hi hl hj hk, same l j hl hj, same l k hl hk));
}

-- the condition within 0
pub four_within : (d : ℕ → ℕ → ℕ) (n : ℕ) → FourPoint d n → FourPointWithin 0 d n
four_within d n p = record { low = λ hi hj hk hl. omega (arith, four_low p hi hj hk hl) }

pub within_four : (d : ℕ → ℕ → ℕ) (n : ℕ) → ((i j : ℕ) → i < n → j < n → d i j ≡ d j i) → FourPointWithin 0 d n → FourPoint d n
within_four d n same p = four_point_lem d n same (record { low = λ hi hj hk hl. omega (arith, p.low hi hj hk hl) })
