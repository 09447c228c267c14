-- `leaving::run` meets its contract: what is left of the replay from here is the whole replay; what falls is the number of events left.
-- Assumes nothing.
use Rattle.tree.specs.LocalRows.{rows_in}
use Rattle.leaving.specs.Laws.Events.{Running}
use Rattle.leaving.proofs.run.Given as goal

abbrev pub invariant-loop-i : goal.invariant-loop-i
invariant-loop-i l = Running l.n (rows_in l.initial.fars l.initial.costs l.count) l.events l.images l.fars l.costs l.rows l.i
