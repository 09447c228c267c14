-- `cost_fields::put_entries` meets its contract: each row is put behind the one before. Assumes nothing.
use Rattle.cost_fields.specs.Laws.Putting.{rows_put_more, rows_put_none}
use Rattle.cost_fields.proofs.put_entries.Goals as goal

pub loop-i-init : goal.loop-i-init
loop-i-init c = rows_put_none _ _ _ _ _ c.requires.1.part

pub loop-i-preserved : goal.loop-i-preserved
loop-i-preserved c = rows_put_more _ _ _ _ c.loop-i.invariant c.put_row-gathered.ensures
