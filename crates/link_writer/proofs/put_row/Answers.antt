-- `link_writer::put_row` meets its contract: two fields, one behind the other, make a row. Assumes nothing.
use Rattle.std.proofs.Common.{arith}
use Rattle.bits.specs.Laws.Numbers.{length-bits_of}
use Rattle.packer.specs.Laws.Putting.{room_then}
use Rattle.link_writer.specs.Laws.Putting.{row_put}
use Rattle.link_writer.proofs.put_row.Goals as goal

pub put-requires : goal.put-requires
put-requires c =
    let a = c.args in
    (c.requires.2, rw c.put_wide-sided.auto.out (room_then a.w c.requires.3 c.put_wide-sided.ensures (rw length-bits_of (omega arith))))

pub returns : goal.returns
returns c =
    let a = c.args in
    row_put a.w a.n a.s a.c c.put_wide-sided.ensures c.put.ensures
