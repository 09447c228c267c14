-- The checks of the index call by their numbers. Assumes nothing.
use Rattle.std.specs.Prelude.{List, [], ◌++◌, ◌∷◌, ℕ}
use Rattle.ground.specs.Steps.{Step, ◌by◌}
use Rattle.theory.specs.Tables.{cost}
use Rattle.tables.specs.InOrder.{costs_steps, size_steps}
use Rattle.index.specs.Call.{far_side_check}

-- 1, 2, 4, 5, 6, 20, 12
abbrev pub index_steps : ℕ → ℕ → List ℕ → ℕ → List Step
index_steps L n t S = size_steps n t ++ (costs_steps L (cost t n) n ++ (12 by far_side_check n S ∷ []))
