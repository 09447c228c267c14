-- `tree::write_rows` meets its contract: the first i places are written over. Assumes nothing.
use Rattle.std.proofs.Common.{◌≡◌}
use Rattle.ground.specs.Buffers.{over}
use Rattle.tree.proofs.write_rows.Given as goal

abbrev pub invariant-loop-i : goal.invariant-loop-i
invariant-loop-i l = (l.fars ≡ over l.i l.f l.initial.fars) × (l.costs ≡ over l.i l.v l.initial.costs)
