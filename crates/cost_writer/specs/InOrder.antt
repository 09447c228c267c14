-- The checks of the cost writer by their numbers. Assumes nothing.
use Rattle.std.specs.Prelude.{List, [], ◌++◌, ◌∷◌, ℕ}
use Rattle.ground.specs.Refusals.{room_check}
use Rattle.ground.specs.Steps.{Step, ◌by◌}
use Rattle.theory.specs.Tables.{cost, limit}
use Rattle.tables.specs.InOrder.{costs_steps, size_steps}
use Rattle.bits.specs.declared.Form.{Form}
use Rattle.cost_forms.specs.Form.{cost_used}
use Rattle.cost_limits.specs.Checks.{fit_check}

-- 17, 3
abbrev pub store_steps : Form → ℕ → (ℕ → ℕ → ℕ) → ℕ → List Step
store_steps form n d room = 17 by fit_check form.limit d n ∷ 3 by room_check (cost_used form n) room ∷ []

-- 1, 2, 4, 5, 6, 20, 17, 3
abbrev pub write_steps : Form → ℕ → List ℕ → ℕ → List Step
write_steps form n t room = (size_steps n t ++ costs_steps limit (cost t n) n) ++ store_steps form n (cost t n) room
