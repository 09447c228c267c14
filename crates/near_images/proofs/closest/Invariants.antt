-- `near_images::closest` meets its contract: b is the closest of the images below y. Assumes nothing.
use Rattle.std.proofs.Common.{max, ◌≤◌}
use Rattle.tables.specs.Entries.{costs_in}
use Rattle.near_images.specs.Near.{Closest}
use Rattle.near_images.proofs.closest.Given as goal

abbrev pub invariant-loop-y : goal.invariant-loop-y
invariant-loop-y l = (2 ≤ l.y) × (l.y ≤ max 2 l.k) × Closest (costs_in l.t) l.k l.y l.b
