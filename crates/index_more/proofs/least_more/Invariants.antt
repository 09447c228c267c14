-- `index_more::least_more` meets its contract: best is the least over the places so far. Assumes nothing.
use Rattle.std.proofs.Common.{length, ◌*◌, ◌≡◌}
use Rattle.theory.specs.Tables.{limit}
use Rattle.tables.specs.Entries.{costs_in}
use Rattle.index_more.specs.Sides.{least_at, choices_at}
use Rattle.index_more.proofs.least_more.Given as goal

abbrev pub invariant-loop-e : goal.invariant-loop-e
invariant-loop-e l = (l.best ≡ least_at l.e-index l.other (4 * limit) (choices_at limit (costs_in l.t) l.k l.own (length l.own) l.other (length l.other)))
