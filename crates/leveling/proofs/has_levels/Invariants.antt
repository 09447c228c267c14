-- `leveling::has_levels` meets its contract: the images before j have levels. Assumes nothing.
use Rattle.tables.specs.Entries.{costs_in}
use Rattle.leveling.specs.ThreePoint.{ThreePoint}
use Rattle.leveling.proofs.has_levels.Given as goal

abbrev pub invariant-loop-j : goal.invariant-loop-j
invariant-loop-j l = ThreePoint (costs_in l.t) l.j
