-- What the reader answers, and what it leaves in the lent slices. Assumes nothing.
use Rattle.newick_reader.specs.declared.TreeRead.{TreeRead}
use Rattle.ground.specs.declared.Refusal.{Refusal}
use Rattle.std.specs.Prelude.{List, min, ℕ, length, Ok, Err, Result}
use Rattle.ground.specs.Outcomes.{front_if}
use Rattle.ground.specs.Refusals.{if_passed, Check}
use Rattle.theory.specs.LinkTables.{Row, costs, fars}
use Rattle.theory.specs.Outcomes.{RowsOutcome}
use Rattle.theory.specs.Tables.{limit}
use Rattle.newick_text.specs.Reading.{read_checks, tree_in}
use Rattle.newick_text.specs.Tables.{names, table_of}

-- what the reader answers: n and the row count, or the refusal
abbrev pub NewickTree : Type 0
NewickTree = Result TreeRead Refusal

-- n and the row count where the check passed
abbrev pub table_if : Check → ℕ → ℕ → NewickTree
table_if c n N = if_passed Err c (Ok (record { n = n; count = N }))

-- and the rows T at the front of the lent places
abbrev pub rows_if : Check → ℕ → List Row → List ℕ → List ℕ → RowsOutcome NewickTree
rows_if c n T f v = record { answer = table_if c n (length T); far_list = front_if c (fars T) f; cost_list = front_if c (costs T) v }

-- what reading the text t answers and leaves in the far sides f and the costs v
abbrev pub read_outcome : List ℕ → List ℕ → List ℕ → RowsOutcome NewickTree
read_outcome t f v = rows_if (read_checks limit t (min (length f) (length v))) (length (names (tree_in t))) (table_of (tree_in t)) f v
