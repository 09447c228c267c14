-- `conversion::put_entries` meets its contract: each entry is taken and put directly behind the one before. Assumes nothing.
use Rattle.std.proofs.Common.{arith}
use Rattle.cost_fields.specs.Laws.Putting.{row_put_more, row_put_none, row_put_room}
use Rattle.conversion.specs.Laws.Taken.{entry_within}
use Rattle.conversion.proofs.put_entries.Goals as goal

pub loop-k-init : goal.loop-k-init
loop-k-init c = row_put_none _ _ _ _ c.requires.2.part

pub entry-requires : goal.entry-requires
entry-requires c = entry_within _ _ _ c.requires.0 (omega arith)

pub put-gathered-requires : goal.put-gathered-requires
put-gathered-requires c = (c.requires.1, row_put_room _ _ c.requires.2 c.loop-k.invariant c.loop-k.auto.out (omega arith))

pub loop-k-preserved : goal.loop-k-preserved
loop-k-preserved c = row_put_more _ _ c.entry.ensures c.loop-k.invariant c.put-gathered.ensures
