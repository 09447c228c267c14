-- The checks of stored bytes by their numbers. Assumes nothing.
use Rattle.std.specs.Prelude.{List, [], ◌∷◌, ℕ, ltb, length}
use Rattle.std.proofs.Common.{arith}
use Rattle.ground.specs.InOrder.{InOrder}
use Rattle.ground.specs.Laws.InOrder.{refuse_order}
use Rattle.ground.specs.Refusals.{refusal}
use Rattle.ground.specs.Steps.{◌by◌}
use Rattle.bits.specs.Kinds.{end_check, fill_check, misplaced, position_check}

-- 9
pub end_order : (s : List ℕ) (needed : ℕ) → InOrder (9 by end_check s needed ∷ []) (end_check s needed)
end_order s needed = refuse_order (ltb (length s) needed) (refusal 9 0 0 0 0) (omega arith)

-- 11
pub fill_order : (fill : ℕ) → InOrder (11 by fill_check fill ∷ []) (fill_check fill)
fill_order fill = refuse_order (ltb 0 fill) (refusal 11 0 0 0 0) (omega arith)

-- 9
pub position_order : (bytes : List ℕ) (position : ℕ) → InOrder (9 by position_check bytes position ∷ []) (position_check bytes position)
position_order bytes position = refuse_order (misplaced (length bytes) position) (refusal 9 0 0 0 0) (omega arith)
