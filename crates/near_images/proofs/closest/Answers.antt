-- `near_images::closest` meets its contract: b is the closest of the images below y. Assumes nothing.
use Rattle.std.proofs.Common.{rules}
use Rattle.near_images.specs.Laws.Turns.{closest_end}
use Rattle.near_images.proofs.closest.Goals as goal

pub returns : goal.returns
returns c =
    let i = c.loop-y.invariant in closest_end _ _ _ _ (search rules) i.1 i.2
