-- The checks of the order call by their numbers. Assumes nothing.
use Rattle.std.specs.Prelude.{List, [], ◌++◌, ◌∷◌, ℕ}
use Rattle.ground.specs.Refusals.{room_check}
use Rattle.ground.specs.Steps.{Step, ◌by◌}
use Rattle.theory.specs.Tables.{cost}
use Rattle.tables.specs.InOrder.{costs_steps, size_steps}
use Rattle.order.specs.Outcome.{ends_check}

-- 1, 2, 3, 4, 5, 6, 20, 8
abbrev pub order_steps : ℕ → ℕ → List ℕ → ℕ → ℕ → ℕ → List Step
order_steps L n t first last room =
    size_steps n t ++ (3 by room_check n room ∷ (costs_steps L (cost t n) n ++ (8 by ends_check n first last ∷ [])))
