-- `leveling::joins` meets its contract: from each image before i it joins. Assumes nothing.
use Rattle.std.proofs.Common.{true, ◌≡◌}
use Rattle.tables.specs.Entries.{costs_in}
use Rattle.leveling.specs.Below.{every}
use Rattle.leveling.specs.Joins.{joins_at}
use Rattle.leveling.proofs.joins.Given as goal

abbrev pub invariant-loop-i : goal.invariant-loop-i
invariant-loop-i l = every l.i (joins_at (costs_in l.t) l.j l.p) ≡ true
