-- An image that is not named yet can be added to those that are. Assumes nothing.
use Rattle.std.specs.Prelude.{◌≡◌, ℕ, ◌+◌, ◌-◌, ◌<◌, ◌^◌, ◌≤◌}
use Rattle.std.proofs.Common.{arith}
use Rattle.ground.specs.Bits.{bit}
use Rattle.ground.specs.Laws.Bits.{bit_add_fits, bit_lt}

pub mark_fits : (m x : ℕ) → m < 2 ^ 64 → 1 ≤ x → x ≤ 64 → (bit m (x - 1) ≡ 1 → ⊥) → 2 ^ (x - 1) + m < 2 ^ 64
mark_fits m x f some most not =
    bit_add_fits 64 (x - 1) m (omega arith) f (omega (arith, bit_lt m (x - 1)))
