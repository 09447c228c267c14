-- The checks of the call for a team by their numbers, and by the table that each is about. Assumes nothing.
use Rattle.std.specs.Prelude.{List, [], ◌++◌, ◌∷◌, suc, zero, ℕ, ◌*◌, ◌+◌, ◌-◌}
use Rattle.ground.specs.Steps.{Step, about, of_table, ◌by◌}
use Rattle.theory.specs.Checks.{images_check}
use Rattle.tree.specs.InOrder.{tree_steps}
use Rattle.tree.specs.Readings.{outputs_room_check}
use Rattle.consensus.specs.Call.{joined_check, number_check}
use Rattle.consensus.specs.Team.{table_at}

-- 1, 16, 2, 3, where f and v are the lengths of the outputs
abbrev pub team_steps : ℕ → ℕ → List ℕ → ℕ → ℕ → List Step
team_steps n m t f v =
    1 by images_check n ∷ 16 by number_check m ∷ 2 by joined_check n m t ∷ 3 by outputs_room_check (2 * n - 3) f v ∷ []

-- 4, 5, 6, 20, 7 table by table, from place k on
unfoldable pub steps_from : ℕ → ℕ → List ℕ → ℕ → ℕ → List Step
steps_from L n t k zero = []
steps_from L n t k (suc m) = about (k + 1) (tree_steps L n (table_at n t k)) ++ steps_from L n t (suc k) m

-- the call's own, and then table by table
abbrev pub consensus_steps : ℕ → ℕ → ℕ → List ℕ → ℕ → ℕ → List Step
consensus_steps L n m t f v = team_steps n m t f v ++ steps_from L n t 0 m

abbrev pub table_numbers : ℕ → List (ℕ × ℕ)
table_numbers k = of_table k (4 ∷ 5 ∷ 6 ∷ 20 ∷ 7 ∷ [])
