-- `lowered_rows::put_rows` meets its contract: the old rows that went by are put. Assumes nothing.
use Rattle.std.proofs.Common.{arith, length, ◌<◌}
use Rattle.lowered_rows.specs.Laws.Putting.{put-more, put_none, put-room}
use Rattle.lowered_rows.proofs.put_rows.Goals as goal

pub loop-i-init : goal.loop-i-init
loop-i-init c = put_none _ _ _ _ _ _ _ _ _ _

pub turn_row-place-requires : goal.turn_row-place-requires
turn_row-place-requires c =
    let room = put-room _ _ _ _ _ _ _ _ _ _ _ _ _ _ c.loop-i.invariant _ (omega arith) c.requires.2 in
    (c.requires.0, room.0, room.1)

pub loop-i-preserved : goal.loop-i-preserved
loop-i-preserved c =
    let room : (c.loop-i.place < length c.loop-i.fars) × (c.loop-i.place < length c.loop-i.costs) = put-room _ _ _ _ _ _ _ _ _ _ _ _ _ _ c.loop-i.invariant _ (omega arith) c.requires.2 in
    put-more _ _ _ _ _ _ _ _ _ _ _ _ _ _ c.loop-i.invariant _ _ _ room.0 room.1
    (rw c.from-slot.ensures at c.turn_row-place.ensures)
