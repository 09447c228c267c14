-- `far_end::far_end` meets its contract: before image w the farthest of the images from 1 on is found. Assumes nothing.
use Rattle.std.proofs.Common.{◌-◌, ◌<◌, ◌≡◌, ◌≤◌}
use Rattle.tables.specs.Entries.{costs_in}
use Rattle.far_end.specs.FarEnd.{farthest}
use Rattle.far_end.proofs.far_end.Given as goal

abbrev pub invariant-loop-w : goal.invariant-loop-w
invariant-loop-w l = (2 ≤ l.w) × (l.x ≡ farthest (costs_in l.t) (l.w - 2)) × (l.x < l.t.n)
