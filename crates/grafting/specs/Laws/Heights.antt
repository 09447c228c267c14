-- Where the paths from the first image part, seen in the order. Assumes nothing.
use Rattle.std.specs.Prelude.{◌≡◌, min, suc, zero, ℕ, ◌*◌, ◌+◌, ◌<◌, ◌≤◌, eqb}
use native.Mathlib.Omega.{arith}
use Rattle.std.proofs.lemmas.Bool.{eqb-false}
use Rattle.std.proofs.Common.{eqb-true}
use borrow.Table.Steps.{cases}
use Rattle.theory.specs.FourPoint.{FourPoint}
use Rattle.theory.proofs.Laws.FourPoint.{four_low}
use Rattle.theory.specs.Tables.{WellFormed}
use Rattle.path_cuts.specs.Cuts.{height, own_cost}
use Rattle.recognition.specs.Recognition.{Recognised}
use Rattle.recognition.specs.Laws.Recognition.{recognised_condition}

module _ (L : ℕ) (e : ℕ → ℕ → ℕ) (n : ℕ) (c : WellFormed L e (suc n)) (r : Recognised e n) where
  pub condition : FourPoint e (suc n)
  condition = recognised_condition L e n c r

  -- without subtraction
  pub height_is : (i j : ℕ) → i ≤ n → j ≤ n → height e i j + e i j ≡ e 0 i + e 0 j
  unfolding height
  height_is i j hi hj =
      omega (
        arith,
        four_low condition {i = i} {j = j} {k = 0} {l = 0} (omega arith) (omega arith) (omega arith) (omega arith),
        c.self {i = 0} (omega arith),
        c.same {i = i} {j = 0} (omega arith) (omega arith),
        c.same {i = j} {j = 0} (omega arith) (omega arith),
      )

  pub height_same : (i j : ℕ) → i ≤ n → j ≤ n → height e i j ≡ height e j i
  height_same i j hi hj = omega (arith, height_is i j hi hj, height_is j i hj hi, c.same {i = i} {j = j} (omega arith) (omega arith))

  -- at the first image
  pub height-first : (j : ℕ) → j ≤ n → height e 0 j ≡ 0
  height-first j hj = omega (arith, height_is 0 j (omega arith) hj, c.self {i = 0} (omega arith))

  -- up to the image itself
  pub height_self : (i : ℕ) → i ≤ n → height e i i ≡ 2 * e 0 i
  height_self i hi = omega (arith, height_is i i hi hi, c.self {i = i} (omega arith))

  -- the formula, and the own link: the image after p leaves the path to p at the height of p and it
  pub height-next : (i p : ℕ) → p < n → i ≤ p → height e i (suc p) ≡ min (height e p (suc p)) (height e i p)
  height-next i p h l =
      omega (
        arith,
        r.entry {p = p} {j = i} h l,
        height_is i (suc p) (omega arith) (omega arith),
        height_is p (suc p) (omega arith) (omega arith),
        height_is i p (omega arith) (omega arith),
        c.same {i = i} {j = p} (omega arith) (omega arith),
      )

  pub height-own : (p : ℕ) → p < n → height e p (suc p) + own_cost e p ≡ height e (suc p) (suc p)
  height-own p h =
      omega (arith, r.own {p = p} h, height_self (suc p) (omega arith), height_is p (suc p) (omega arith) (omega arith))

  -- along the path heights grow
  pub height-step : (i k : ℕ) → k ≤ n → suc i ≤ k → height e i k ≤ height e (suc i) k
  height-step i zero hk h = absurd (omega arith)
  height-step i (suc p) hk h =
      cases (eqb i p)
      (λ q. rw (eqb-true i p q) (omega (arith, height-own p (omega arith))))
      (λ q.
      let u : suc i ≤ p = omega (arith, eqb-false i p q) in
      omega (arith, height-next i p (omega arith) (omega arith), height-next (suc i) p (omega arith) u, height-step i p (omega arith) u))

  pub height-up : (i j k : ℕ) → k ≤ n → i ≤ j → j ≤ k → height e i k ≤ height e j k
  height-up i zero k hk l h = let q : i ≡ 0 = omega arith in rw q (omega arith)
  height-up i (suc j) k hk l h =
      cases (eqb i (suc j)) (λ q. rw (eqb-true i (suc j) q) (omega arith))
      (λ q. omega (arith, height-up i j k hk (omega (arith, eqb-false i (suc j) q)) (omega arith), height-step j k hk h))

  -- later images part no higher
  pub height-down : (i j k : ℕ) → k ≤ n → i ≤ j → j ≤ k → height e i k ≤ height e i j
  height-down i j zero hk l h = let q : j ≡ 0 = omega arith in rw q (omega arith)
  height-down i j (suc k) hk l h =
      cases (eqb j (suc k)) (λ q. rw (eqb-true j (suc k) q) (omega arith))
      (λ q.
      let u : j ≤ k = omega (arith, eqb-false j (suc k) q) in
      omega (arith, height-down i j k (omega arith) l u, height-next i k (omega arith) (omega arith)))

  -- of three images the least height occurs twice
  pub height-three : (i j k : ℕ) → i ≤ n → j ≤ n → k ≤ n → min (height e i j) (height e j k) ≤ height e i k
  height-three i j k hi hj hk =
      omega (
        arith,
        four_low condition {i = i} {j = k} {k = 0} {l = j} (omega arith) (omega arith) (omega arith) (omega arith),
        height_is i j hi hj,
        height_is j k hj hk,
        height_is i k hi hk,
        c.same {i = k} {j = j} (omega arith) (omega arith),
        c.same {i = i} {j = 0} (omega arith) (omega arith),
        c.same {i = k} {j = 0} (omega arith) (omega arith),
      )
