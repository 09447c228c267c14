-- `leveling::nearest` meets its contract: p is nearest among the images before i. Assumes nothing.
use Rattle.tables.specs.Entries.{costs_in}
use Rattle.leveling.specs.Joins.{Nearest}
use Rattle.leveling.proofs.nearest.Given as goal

abbrev pub invariant-loop-i : goal.invariant-loop-i
invariant-loop-i l = Nearest (costs_in l.t) l.j l.i l.p
