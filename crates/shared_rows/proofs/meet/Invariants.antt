-- `shared_rows::meet` meets its contract: what is kept and what is still shared ahead are all of it. Assumes nothing.
use Rattle.std.proofs.Common.{length, ◌+◌, ◌-◌, ◌≡◌, ◌≤◌}
use Rattle.shared_rows.specs.Laws.Ahead.{Ahead}
use Rattle.shared_rows.proofs.meet.Given as goal

abbrev pub invariant-loop-i : goal.invariant-loop-i
invariant-loop-i l = (l.i ≤ l.count) × (l.j ≤ length l.f) × (l.at ≤ l.i) × Ahead l.count l.initial.fars l.initial.costs l.f l.v l.fars l.costs l.at l.i l.j × (length l.fars ≡ length l.initial.fars)
    × (length l.costs ≡ length l.initial.costs)

abbrev pub decreases-loop-i : goal.decreases-loop-i
decreases-loop-i l = l.count - l.i + (length l.f - l.j)
