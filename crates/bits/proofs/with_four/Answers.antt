-- `bits::with_four` meets its contract: two bytes and two bytes are four. Assumes nothing.
use Rattle.std.proofs.Common.{arith, ◌*◌}
use Rattle.bits.specs.Laws.Turns.{value_part_lt}
use Rattle.bits.specs.Laws.Words.{number_bytes_more}
use Rattle.bits.proofs.with_four.Goals as goal

pub with_two-requires-2 : goal.with_two-requires-2
with_two-requires-2 c =
    let a = c.args in
    (omega (arith, value_part_lt a.bytes.now (8 * a.q) 16 16 (omega arith) (omega arith)), omega arith)

pub returns : goal.returns
returns c =
    let a = c.args in
    omega (arith, number_bytes_more a.bytes.now a.q 2 2 (omega arith))
