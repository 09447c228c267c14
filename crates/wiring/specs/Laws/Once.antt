-- The largest of three numbers occurs once only exactly when one of them is above both others. Assumes nothing.
use Rattle.std.specs.Prelude.{false, true, ◌≡◌, max, ℕ, ◌<◌, ◌≤◌, ltb}
use Rattle.std.proofs.Common.{sym, ◌∙◌, arith, le-ltb, ltb-false, ltb-true}
use borrow.Table.Steps.{cases}
use Rattle.ground.specs.Laws.Tests.{and_l, and_not_both, and_r}
use Rattle.theory.specs.FourPoint.{times_largest}
use Rattle.theory.proofs.Laws.FourPoint.{above_none, none_above, none_above₂, none_above₃}
use Rattle.wiring.specs.Once.{above}

above-max : (x y z : ℕ) → above x y z ≡ true → max y z < x
above-max x y z e = omega (arith, ltb-true y x (and_l (ltb y x) (ltb z x) e), ltb-true z x (and_r (ltb y x) (ltb z x) e))

not_above : (x y z : ℕ) → above x y z ≡ false → x ≤ max y z
not_above x y z e =
    cases (ltb y x) (λ t. omega (arith, ltb-false z x (and_not_both (ltb y x) (ltb z x) e t))) (λ t. omega (arith, ltb-false y x t))

twice_false : (x y z : ℕ) → (2 ≤ times_largest x y z → ⊥) → ltb (times_largest x y z) 2 ≡ true
twice_false x y z h = cases (ltb (times_largest x y z) 2) (λ e. e) (λ e. absurd (h (ltb-false (times_largest x y z) 2 e)))

-- ## The three answers of the code

pub once_first : (x y z : ℕ) → above x y z ≡ true → ltb (times_largest x y z) 2 ≡ true
once_first x y z e = twice_false x y z (λ h. omega (arith, none_above x y z h, above-max x y z e))

pub once_second : (x y z : ℕ) → above y x z ≡ true → ltb (times_largest x y z) 2 ≡ true
once_second x y z e = twice_false x y z (λ h. omega (arith, none_above₂ x y z h, above-max y x z e))

pub once_third : (x y z : ℕ) → above x y z ≡ false → above y x z ≡ false → ltb (times_largest x y z) 2 ≡ above z x y
once_third x y z e f =
    cases (above z x y)
    (λ t. twice_false x y z (λ h. omega (arith, none_above₃ x y z h, above-max z x y t)) ∙ sym t)
    (λ t. le-ltb (times_largest x y z) 2 (above_none x y z (not_above x y z e) (not_above y x z f) (not_above z x y t)) ∙ sym t)
