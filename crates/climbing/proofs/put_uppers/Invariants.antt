-- `climbing::put_uppers` meets its contract: the first r places are upper rows, and the others as they were. Assumes nothing.
use Rattle.std.proofs.Common.{length, ◌≡◌}
use Rattle.ground.specs.Buffers.{over}
use Rattle.theory.specs.Routes.{uppers}
use Rattle.climbing.proofs.put_uppers.Given as goal

abbrev pub invariant-loop-r : goal.invariant-loop-r
invariant-loop-r l = (length l.out ≡ length l.initial.out) × (l.out ≡ over l.r (uppers l.fars) l.initial.out)
