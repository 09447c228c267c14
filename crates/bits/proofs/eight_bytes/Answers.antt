-- `bits::eight_bytes` meets its contract: four bytes and four bytes are eight. Assumes nothing.
use Rattle.std.proofs.Common.{arith, ◌*◌}
use Rattle.bits.specs.Laws.Turns.{value_part_lt}
use Rattle.bits.specs.Laws.Words.{number_bytes_more}
use Rattle.bits.proofs.eight_bytes.Goals as goal

pub with_four-requires-2 : goal.with_four-requires-2
with_four-requires-2 c =
    let a = c.args in
    (omega (arith, value_part_lt a.bytes.now (8 * a.q) 32 32 (omega arith) (omega arith)), omega arith)

pub returns : goal.returns
returns c =
    let a = c.args in
    omega (arith, number_bytes_more a.bytes.now a.q 4 4 (omega arith))
