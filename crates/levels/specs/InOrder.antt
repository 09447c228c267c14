-- The checks of the reading of levels by their numbers. Assumes nothing.
use Rattle.std.specs.Prelude.{List, ◌++◌, ◌∷◌, min, ℕ, ◌-◌}
use Rattle.ground.specs.Refusals.{room_check}
use Rattle.ground.specs.Steps.{Step, ◌by◌}
use Rattle.theory.specs.Tables.{cost}
use Rattle.tables.specs.InOrder.{costs_steps, size_steps}
use Rattle.leveling.specs.InOrder.{levels_steps}

-- 1, 2, 3, 4, 5, 6, 20, 21
abbrev pub call_steps : ℕ → ℕ → List ℕ → ℕ → ℕ → List Step
call_steps L n t g v =
    size_steps n t ++ (3 by room_check (n - 1) (min g v) ∷ (costs_steps L (cost t n) n ++ levels_steps (cost t n) n))
