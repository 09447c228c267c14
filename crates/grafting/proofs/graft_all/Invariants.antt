-- `grafting::graft_all` meets its contract: path and table are those of place p. Assumes nothing.
use Rattle.tables.specs.Entries.{costs_in}
use Rattle.grafting.specs.Held.{PathHeld, TableHeld}
use Rattle.grafting.proofs.graft_all.Given as goal

abbrev pub invariant-loop-p : goal.invariant-loop-p
invariant-loop-p l = PathHeld (costs_in l.t) l.o l.p l.m l.sides l.lengths × TableHeld (costs_in l.t) l.o l.t.n l.p l.count l.fars l.costs
