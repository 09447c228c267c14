-- `packer::put_wide` meets its contract: a wide field is put in two pieces. Assumes nothing.
use Rattle.std.proofs.Common.{arith, ◌-◌}
use Rattle.bits.specs.Laws.Numbers.{length-bits_of}
use Rattle.packer.specs.Laws.Putting.{field_pieces, put_then, room_then}
use Rattle.packer.proofs.put_wide.Goals as goal

pub put-requires-2 : goal.put-requires-2
put-requires-2 c =
    (omega arith, rw c.put-upper.auto.out (room_then 32 c.requires.1 c.put-upper.ensures (rw length-bits_of (omega arith))))

pub returns : goal.returns
returns c =
    let a = c.args in
    put_then (field_pieces a.width (a.width - 32) 32 a.value (omega arith)) c.put-upper.ensures c.put-2.ensures
