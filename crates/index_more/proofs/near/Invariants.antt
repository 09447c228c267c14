-- `index_more::near` meets its contract: best is the least over the places so far. Assumes nothing.
use Rattle.std.proofs.Common.{◌*◌, ◌+◌, ◌-◌, ◌≡◌}
use Rattle.theory.specs.Tables.{limit}
use Rattle.tables.specs.Entries.{costs_in}
use Rattle.index_more.specs.Sides.{least_at}
use Rattle.index_more.proofs.near.Given as goal

abbrev pub invariant-loop-b : goal.invariant-loop-b
invariant-loop-b l = (l.best ≡ least_at l.b-index l.other (4 * limit) (λ b. limit + costs_in l.t l.k b - costs_in l.t b l.e))
