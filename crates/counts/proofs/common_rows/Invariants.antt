-- `counts::common_rows` meets its contract: what is counted and what is still ahead are all of them. Assumes nothing.
use Rattle.std.proofs.Common.{length, ◌+◌, ◌-◌, ◌≡◌, ◌≤◌}
use Rattle.theory.specs.Comparison.{common, inners}
use Rattle.counts.specs.Merge.{shared}
use Rattle.counts.proofs.common_rows.Given as goal

abbrev pub invariant-loop-i : goal.invariant-loop-i
invariant-loop-i l = (l.i ≤ length l.first) × (l.j ≤ length l.second) × (l.count ≤ l.i)
    × (l.count + shared l.n l.first l.second l.i l.j ≡ length (common (inners l.n l.first) (inners l.n l.second)))

abbrev pub decreases-loop-i : goal.decreases-loop-i
decreases-loop-i l = length l.first - l.i + (length l.second - l.j)
