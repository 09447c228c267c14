-- The check of the call by its number. Assumes nothing.
use Rattle.std.specs.Prelude.{List, [], ◌∷◌, ℕ}
use Rattle.ground.specs.InOrder.{InOrder}
use Rattle.ground.specs.Laws.InOrder.{room-order}
use Rattle.ground.specs.Steps.{Step, ◌by◌}
use Rattle.refusal_text.specs.Text.{refusal_text_check, room}

-- 3
abbrev pub refusal_text_steps : ℕ → List Step
refusal_text_steps places = 3 by refusal_text_check places ∷ []

pub refusal_text_order : (places : ℕ) → InOrder (refusal_text_steps places) (refusal_text_check places)
refusal_text_order places = room-order room places
