-- Containment as the test x & y == x.
-- Assumes nothing.
use Rattle.std.proofs.Common.{ap, arith}
use Rattle.std.specs.Prelude.{◌≡◌, ℕ, ◌<◌, ◌^◌}
use Rattle.std.proofs.lemmas.Nat.{and_le_l}
use Rattle.std.specs.Int.Bits.{bit_and}
use borrow.Table.Steps.{cases}
use Rattle.ground.specs.Bits.{bit}
use Rattle.ground.specs.Laws.Bits.{bit_and_lem, bit_ext, bit_lt}
use Rattle.theory.specs.FarSides.{Within, holds}
use Rattle.theory.specs.Laws.Nested.{bit-holds, holds_false, holds_true}

-- what is within what
pub and_within : (n S R : ℕ) → bit_and S R ≡ S → Within n S R
and_within n S R e i h s = bit-holds R i (omega (arith, bit_and_lem i S R, ap (λ (x : ℕ). bit x i) e, holds_true S i s, bit_lt R i))

pub within_and : (n S R : ℕ) → S < 2 ^ n → Within n S R → bit_and S R ≡ S
within_and n S R f w =
    bit_ext n (bit_and S R) S (omega (arith, and_le_l S R)) f (λ i h.
    cases (holds S i)
    (λ s. omega (arith, bit_and_lem i S R, holds_true S i s, holds_true R i (w i h s)))
    (λ s. omega (arith, bit_and_lem i S R, holds_false S i s)))
