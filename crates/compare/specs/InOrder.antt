-- The checks of the comparison by their numbers, and by the table that each is about. Assumes nothing.
use Rattle.std.specs.Prelude.{List, ◌++◌, ◌∷◌, ℕ}
use Rattle.ground.specs.Steps.{Step, about, ◌by◌}
use Rattle.theory.specs.Checks.{images_check}
use Rattle.tree.specs.InOrder.{table_steps}

-- 1, then the first table's 2, 4, 5, 6, 20, 7, then the second's
abbrev pub compare_steps : ℕ → ℕ → List ℕ → List ℕ → List Step
compare_steps L n t u = 1 by images_check n ∷ (about 1 (table_steps L n t) ++ about 2 (table_steps L n u))
