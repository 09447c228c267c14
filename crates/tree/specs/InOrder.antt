-- The checks of the two readings, and of one table where room is no question, by their numbers. Assumes nothing.
use Rattle.std.specs.Prelude.{List, ◌++◌, ◌∷◌, ℕ, ◌*◌, ◌-◌}
use Rattle.ground.specs.Steps.{Step, ◌by◌}
use Rattle.theory.specs.Tables.{cost}
use Rattle.tables.specs.Checks.{length_check}
use Rattle.tables.specs.InOrder.{costs_steps, size_steps}
use Rattle.wiring.specs.InOrder.{wiring_steps}
use Rattle.tree.specs.Readings.{outputs_room_check}

-- 1, 2, 3, 4, 5, 6, 20, where f and v are the lengths of the outputs
abbrev pub measured_steps : ℕ → ℕ → List ℕ → ℕ → ℕ → List Step
measured_steps L n t f v = size_steps n t ++ (3 by outputs_room_check (2 * n - 3) f v ∷ costs_steps L (cost t n) n)

-- and 7
abbrev pub exact_steps : ℕ → ℕ → List ℕ → ℕ → ℕ → List Step
exact_steps L n t f v = measured_steps L n t f v ++ wiring_steps (cost t n) n

-- 4, 5, 6, 20, 7 of one table
abbrev pub tree_steps : ℕ → ℕ → List ℕ → List Step
tree_steps L n t = costs_steps L (cost t n) n ++ wiring_steps (cost t n) n

-- and 2 in front
abbrev pub table_steps : ℕ → ℕ → List ℕ → List Step
table_steps L n t = 2 by length_check n t ∷ tree_steps L n t
