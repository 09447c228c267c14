-- `index_more::least_side` meets its contract: best is the least over the places so far. Assumes nothing.
use Rattle.std.proofs.Common.{◌*◌, ◌+◌, ◌-◌, ◌≡◌}
use Rattle.theory.specs.Tables.{limit}
use Rattle.tables.specs.Entries.{costs_in}
use Rattle.index_more.specs.Sides.{least_at}
use Rattle.index_more.proofs.least_side.Given as goal

abbrev pub invariant-loop-a : goal.invariant-loop-a
invariant-loop-a l = (l.best ≡ least_at l.a-index l.own (4 * limit) (λ a. l.low + (limit + costs_in l.t a l.e - costs_in l.t l.k a)))
