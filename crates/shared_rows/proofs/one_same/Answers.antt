-- `shared_rows::one_same` meets its contract. Assumes nothing.
use Rattle.std.proofs.Common.{eq-eqb, ne_eqb}
use Rattle.shared_rows.specs.Merge.{one_same}
use Rattle.shared_rows.proofs.one_same.Goals as goal

pub returns-then-x-y : goal.returns-then-x-y
unfolding one_same
returns-then-x-y c = rw (eq-eqb _ _ c.if-x-y.true)

pub returns-else-x-y : goal.returns-else-x-y
unfolding one_same
returns-else-x-y c = rw (ne_eqb _ _ c.if-x-y.false)
