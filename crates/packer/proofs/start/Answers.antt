-- `packer::start` meets its contract: n is put behind the mark. Assumes nothing.
use Rattle.std.proofs.Common.{arith, refl, ◌+◌}
use Rattle.bits.specs.Laws.Numbers.{length-bits_of}
use Rattle.packer.specs.Laws.Putting.{put_then, room-started, room_then}
use Rattle.packer.proofs.start.Goals as goal

pub put-requires : goal.put-requires
put-requires c =
    (omega arith, rw c.put-marked.auto.out (room_then 7 (room-started (c.args.form.head + 7) c.requires.1) c.put-marked.ensures (rw length-bits_of (omega arith))))

pub returns : goal.returns
returns c = put_then refl c.put-marked.ensures c.put.ensures
