-- Checks that several calls share, by document 01's numbers. Assumes nothing.
use Rattle.std.specs.Prelude.{ℕ}
use Rattle.ground.specs.Refusals.{outside, refusal, refuse_if, Check}

-- 1: n outside 3..64
abbrev pub images_check : ℕ → Check
images_check n = refuse_if (outside 3 64 n) (refusal 1 n 0 0 0)

-- 8: image outside 1..n
abbrev pub image_check : ℕ → ℕ → Check
image_check n i = refuse_if (outside 1 n i) (refusal 8 0 0 0 0)
