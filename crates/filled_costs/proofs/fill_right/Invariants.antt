-- `stored_costs::fill_right` meets its contract: each entry is taken directly behind the one before. Assumes nothing.
use Rattle.std.proofs.Common.{length, ◌*◌, ◌+◌, ◌≡◌}
use Rattle.bits.specs.Bits.{bits, over_at}
use Rattle.bits.specs.Forms.{field_value}
use Rattle.bits.specs.Listed.{listed}
use Rattle.filled_costs.proofs.fill_right.Given as goal

abbrev pub invariant-loop-k : goal.invariant-loop-k
invariant-loop-k l = (length l.out ≡ length l.initial.out) × (l.p ≡ l.position + l.w * l.k) × (l.out ≡ over_at l.initial.out l.start (listed (field_value (bits l.bytes) l.position l.w) l.k))
