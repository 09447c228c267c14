-- `levels::after` meets its contract: m is the least over the images before j that stand after k. Assumes nothing.
use Rattle.std.proofs.Common.{◌≡◌}
use Rattle.theory.specs.Tables.{limit}
use Rattle.tables.specs.Entries.{costs_in}
use Rattle.levels.specs.Next.{after_height}
use Rattle.levels.proofs.after.Given as goal

abbrev pub invariant-loop-j : goal.invariant-loop-j
invariant-loop-j l = (l.m ≡ after_height limit (costs_in l.t) l.j l.k)
