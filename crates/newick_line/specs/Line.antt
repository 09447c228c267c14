-- The line of the stored cost table at the start of the bytes s, in either form, whatever follows it. Assumes nothing.
use Rattle.std.specs.Prelude.{List, ◌++◌, ◌≡◌, ℕ, length, replicate}
use Rattle.ground.specs.Buffers.{front}
use Rattle.theory.specs.LinkTables.{Row}
use Rattle.theory.specs.Tables.{limit}
use Rattle.tree.specs.Exact.{exact_rows, tree_check}
use Rattle.listing_lines.specs.Lines.{newline, room}
use Rattle.listing_text.specs.Listing.{stored_text}
use Rattle.table_text.specs.TableText.{text_if}
use Rattle.newick_text.specs.LinkTrees.{newick}

-- the Newick text of the link table T, and a newline
abbrev pub line_of : List Row → List ℕ
line_of T = newick T ++ newline

-- that of the exact reading of the cost table t; or its refusal
abbrev pub table_line : ℕ → List ℕ → List ℕ
table_line n t = text_if (tree_check limit n t) (line_of (exact_rows limit n t))

-- what the stored table's checks refuse, or the line of the table that the bytes say
unfoldable pub newick_line : List ℕ → List ℕ
newick_line s = stored_text table_line s

-- what the call answers: the line's length, and the line in front of an array that is otherwise 0
pub record Printed (s : List ℕ) (size : ℕ) (text : List ℕ) : Type 0 where
  pub sized : size ≡ length (newick_line s)
  pub printed : text ≡ front (newick_line s) (replicate room 0)
