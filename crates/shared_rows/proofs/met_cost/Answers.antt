-- `shared_rows::met_cost` meets its contract. Assumes nothing.
use Rattle.std.proofs.Common.{eq-eqb, ne_eqb}
use Rattle.shared_rows.specs.Merge.{met_cost}
use Rattle.shared_rows.proofs.met_cost.Goals as goal

pub returns-then-x-y : goal.returns-then-x-y
unfolding met_cost
returns-then-x-y c = rw (eq-eqb _ _ c.if-x-y.true) c.min.ensures

pub returns-else-x-y : goal.returns-else-x-y
unfolding met_cost
returns-else-x-y c = rw (ne_eqb _ _ c.if-x-y.false)
