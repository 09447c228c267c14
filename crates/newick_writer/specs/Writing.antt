-- Writing the Newick text of a link table: the checks in order, and the outcome. N is the row count, l the far sides, v the doubled costs.
-- Assumes nothing.
use Rattle.std.specs.Prelude.{List, ◌≡◌, ℕ, ◌≤◌, length}
use Rattle.ground.specs.Outcomes.{Outcome, written_if}
use Rattle.ground.specs.Refusals.{room_check, ◌then◌, Check, Written}
use Rattle.theory.specs.LinkTables.{rows_of}
use Rattle.theory.specs.Tables.{limit}
use Rattle.links.specs.Checks.{row_checks, size_checks}
use Rattle.newick_text.specs.LinkTrees.{newick}
use Rattle.newick_rows.specs.Below.{Sized, tree_text}
use Rattle.newick_rows.specs.Chains.{Upward}
use Rattle.newick_writer.specs.Bytes.{text_bytes}

-- 1, 10, 2, 12, 13
abbrev pub table_checks : ℕ → ℕ → List ℕ → List ℕ → Check
table_checks n N l v = size_checks n N l v then row_checks limit n l v

-- and then 3, counting exact bytes
abbrev pub write_checks : ℕ → ℕ → List ℕ → List ℕ → ℕ → Check
write_checks n N l v room = table_checks n N l v then room_check (length (newick (rows_of l v))) room

-- the text at the front of the lent bytes, and how many it has
abbrev pub write_outcome : ℕ → ℕ → List ℕ → List ℕ → List ℕ → Outcome Written
write_outcome n N l v out = written_if (write_checks n N l v (length out)) (newick (rows_of l v)) out

-- ## What is known once the table is checked, u being the upper rows

pub record Known (u l v : List ℕ) : Type 0 where
  pub some : 1 ≤ length l
  pub sized : Sized u l v
  pub upward : Upward u
  pub bytes : length (tree_text u l v) ≡ text_bytes (rows_of l v)

-- the text by upper rows, where there is room for it
abbrev pub room_outcome : List ℕ → List ℕ → List ℕ → List ℕ → Outcome Written
room_outcome u l v out = written_if (room_check (length (tree_text u l v)) (length out)) (tree_text u l v) out
