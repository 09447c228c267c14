-- `bad_rows::first_bad_row` meets its contract: no row below k is bad. Assumes nothing.
use Rattle.ground.specs.First.{NoneBelow}
use Rattle.bad_rows.specs.BadRows.{bad_row}
use Rattle.bad_rows.proofs.first_bad_row.Given as goal

abbrev pub invariant-loop-k : goal.invariant-loop-k
invariant-loop-k l = NoneBelow (bad_row l.most l.n l.fars l.costs) l.k
