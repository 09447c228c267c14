-- Laws of the lower of two places, 0 being none. Assumes nothing.
use Rattle.std.specs.Prelude.{refl, ◌≡◌, min, suc, zero, ℕ, ◌<◌, ◌≤◌}
use Rattle.std.proofs.Common.{sym, ◌∙◌, arith}
use Rattle.newick_text.specs.Noting.{lower_place}

pub lower_none : (p : ℕ) → lower_place p 0 ≡ p
lower_none zero = refl
lower_none (suc p) = refl

pub lower_some : (p q : ℕ) → 1 ≤ p → 1 ≤ q → lower_place p q ≡ min p q
lower_some zero q h l = absurd (omega arith)
lower_some (suc p) zero h l = absurd (omega arith)
lower_some (suc p) (suc q) h l = refl

pub lower_first : (p q : ℕ) → 1 ≤ p → 1 ≤ q → p ≤ q → lower_place p q ≡ p
lower_first p q h l m = lower_some p q h l ∙ omega arith

pub lower_second : (p q : ℕ) → 1 ≤ p → 1 ≤ q → q < p → lower_place p q ≡ q
lower_second p q h l m = lower_some p q h l ∙ omega arith

pub lower_assoc : (p q r : ℕ) → lower_place (lower_place p q) r ≡ lower_place p (lower_place q r)
lower_assoc zero q r = refl
lower_assoc (suc p) zero r = refl
lower_assoc (suc p) (suc q) zero = lower_none (min (suc p) (suc q))
lower_assoc (suc p) (suc q) (suc r) =
    lower_some (min (suc p) (suc q)) (suc r) (omega arith) (omega arith)
    ∙ sym (lower_some (suc p) (min (suc q) (suc r)) (omega arith) (omega arith) ∙ omega arith)
