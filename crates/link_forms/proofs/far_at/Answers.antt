-- `link_forms::far_at` meets its contract: one field of at most 63 bits, so twice its number fits 64. Assumes nothing.
use Rattle.std.proofs.Common.{arith, ◌-◌}
use Rattle.bits.specs.Laws.Turns.{value_part_lt}
use Rattle.link_forms.proofs.far_at.Goals as goal

pub overflow_mul-result : goal.overflow_mul-result
overflow_mul-result c =
    rw c.get.ensures (omega (arith, value_part_lt c.args.bytes.now c.args.position (c.args.n - 1) 63 c.requires.2 (omega (arith, c.requires.1))))
