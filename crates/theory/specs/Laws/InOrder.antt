-- The shared checks by their numbers. Assumes nothing.
use Rattle.std.specs.Prelude.{[], ◌∷◌, ℕ}
use Rattle.std.proofs.Common.{arith}
use Rattle.ground.specs.InOrder.{InOrder, Only}
use Rattle.ground.specs.Laws.InOrder.{refuse_order, refuse_if_only}
use Rattle.ground.specs.Refusals.{outside, refusal}
use Rattle.ground.specs.Steps.{◌by◌}
use Rattle.theory.specs.Checks.{image_check, images_check}

-- 1
pub images-order : (n : ℕ) → InOrder (1 by images_check n ∷ []) (images_check n)
images-order n = refuse_order (outside 3 64 n) (refusal 1 n 0 0 0) (omega arith)

-- 8
pub image_only : (n i : ℕ) → Only 8 (image_check n i)
image_only n i = refuse_if_only (outside 1 n i) (refusal 8 0 0 0 0)
