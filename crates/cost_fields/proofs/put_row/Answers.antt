-- `cost_fields::put_row` meets its contract: each entry is put behind the one before. Assumes nothing.
use Rattle.std.proofs.Common.{arith}
use Rattle.cost_fields.specs.Laws.Putting.{row_put_end, row_put_more, row_put_none, row_put_room}
use Rattle.cost_fields.proofs.put_row.Goals as goal

pub loop-k-init : goal.loop-k-init
loop-k-init c = row_put_none _ _ _ _ c.requires.2.part

pub put-gathered-requires : goal.put-gathered-requires
put-gathered-requires c = (c.requires.1, row_put_room _ _ c.requires.2 c.loop-k.invariant c.loop-k.auto.out c.loop-k-test.true)

pub loop-k-preserved : goal.loop-k-preserved
loop-k-preserved c = row_put_more _ _ c.entry.ensures.0 c.loop-k.invariant c.put-gathered.ensures

pub returns : goal.returns
returns c = row_put_end _ _ _ _ (omega arith) c.loop-k.invariant
