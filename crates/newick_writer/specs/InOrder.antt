-- The checks of the Newick writer by their numbers: N rows, l the far sides, v the doubled costs. Assumes nothing.
use Rattle.std.specs.Prelude.{List, [], ◌++◌, ◌∷◌, ℕ, length}
use Rattle.ground.specs.Refusals.{room_check}
use Rattle.ground.specs.Steps.{Step, ◌by◌}
use Rattle.theory.specs.LinkTables.{rows_of}
use Rattle.theory.specs.Tables.{limit}
use Rattle.links.specs.InOrder.{row_steps, size_steps}
use Rattle.newick_text.specs.LinkTrees.{newick}

-- 1, 10, 2, 12, 13, 3
abbrev pub write_steps : ℕ → ℕ → List ℕ → List ℕ → ℕ → List Step
write_steps n N l v room = (size_steps n N l v ++ row_steps limit n l v) ++ (3 by room_check (length (newick (rows_of l v))) room ∷ [])
