-- What is answered by the notes of a whole text: n image numbers, the images named, `noted` rows in the places of f and v, image 1's first, and the
-- place of the first sibling out of order, 0 where there is none. Assumes nothing.
use Rattle.std.specs.Prelude.{List, min, ℕ, length}
use Rattle.ground.specs.Refusals.{◌then◌}
use Rattle.theory.specs.Outcomes.{RowsOutcome}
use Rattle.newick_reader.specs.Outcomes.{rows_if, NewickTree}
use Rattle.newick_table.specs.Notes.{name_checks, row_checks, noted_table}

-- what is answered and left in the lent far sides l and costs w, first by 12 and 22, then by all checks
abbrev pub store_outcome : ℕ → ℕ → ℕ → ℕ → List ℕ → List ℕ → List ℕ → List ℕ → RowsOutcome NewickTree
store_outcome n marked noted fallen f v l w =
    rows_if (row_checks n fallen (noted_table marked noted f v)) n (noted_table marked noted f v) l w

abbrev pub note_outcome : ℕ → ℕ → ℕ → ℕ → List ℕ → List ℕ → List ℕ → List ℕ → RowsOutcome NewickTree
note_outcome n marked noted fallen f v l w =
    rows_if (name_checks n marked (min (length l) (length w)) then row_checks n fallen (noted_table marked noted f v)) n (noted_table marked noted f v) l w
