-- `chains::images` meets its contract: the images below z took their turn. Assumes nothing.
use Rattle.std.proofs.Common.{length, ◌≡◌}
use Rattle.theory.specs.Tables.{limit}
use Rattle.tables.specs.Entries.{costs_in}
use Rattle.chains.specs.Values.{Least}
use Rattle.chains.proofs.images.Given as goal

abbrev pub invariant-loop-z : goal.invariant-loop-z
invariant-loop-z l = (length l.steps ≡ 384) × Least limit (costs_in l.t) l.k l.sides l.count l.z l.best
