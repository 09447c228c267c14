-- `near_images::near_images` meets its contract: m has the near images below y. Assumes nothing.
use Rattle.std.proofs.Common.{◌≤◌}
use Rattle.tables.specs.Entries.{costs_in}
use Rattle.near_images.specs.Near.{NearImages}
use Rattle.near_images.proofs.near_images.Given as goal

abbrev pub invariant-loop-y : goal.invariant-loop-y
invariant-loop-y l = (1 ≤ l.y) × NearImages (costs_in l.t) l.k l.b l.y l.m
