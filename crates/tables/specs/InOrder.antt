-- The checks of a cost table by their numbers: 1, 2 and 4, 5, 6, 20. Assumes nothing.
use Rattle.std.specs.Prelude.{List, [], ◌∷◌, ℕ}
use Rattle.ground.specs.Steps.{Step, ◌by◌}
use Rattle.theory.specs.Checks.{images_check}
use Rattle.tables.specs.Checks.{diagonal_check, entries_check, length_check, off_diagonal_check, symmetry_check}

-- 1, 2
abbrev pub size_steps : ℕ → List ℕ → List Step
size_steps n t = 1 by images_check n ∷ 2 by length_check n t ∷ []

-- 4, 5, 6, 20
abbrev pub costs_steps : ℕ → (ℕ → ℕ → ℕ) → ℕ → List Step
costs_steps L d n =
    4 by entries_check L d n ∷ 5 by diagonal_check d n ∷ 6 by symmetry_check d n ∷ 20 by off_diagonal_check d n ∷ []
