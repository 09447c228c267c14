-- What an event is refused by: the number of the image that leaves, counted from 1. Assumes nothing.
use Rattle.std.specs.Prelude.{ℕ, ◌-◌}
use Rattle.ground.specs.Refusals.{◌then◌, Check}
use Rattle.theory.specs.Checks.{image_check, images_check}

-- 8 for an unknown image, then 1 if two would be left
abbrev pub event_check : ℕ → ℕ → Check
event_check n e = image_check n e then images_check (n - 1)
