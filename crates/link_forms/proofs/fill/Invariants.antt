-- `link_forms::fill` meets its contract: the front of both slices is written row by row. Assumes nothing.
use Rattle.std.proofs.Common.{length, ◌≡◌}
use Rattle.ground.specs.Buffers.{front}
use Rattle.bits.specs.Listed.{listed}
use Rattle.link_forms.specs.Said.{cost_at, far_at}
use Rattle.link_forms.proofs.fill.Given as goal

abbrev pub invariant-loop-k : goal.invariant-loop-k
invariant-loop-k l = (length l.fars ≡ length l.initial.fars) × (length l.costs ≡ length l.initial.costs)
    × (l.fars ≡ front (listed (far_at l.form l.n l.bytes) l.k) l.initial.fars) × (l.costs ≡ front (listed (cost_at l.form l.n l.bytes) l.k) l.initial.costs)
