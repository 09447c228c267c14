-- The text of one table: its exact reading, or the line of its refusal. Assumes nothing.
use Rattle.std.specs.Prelude.{List, ℕ}
use Rattle.ground.specs.Refusals.{if_passed, Check}
use Rattle.theory.specs.LinkTables.{Row, costs, fars}
use Rattle.theory.specs.Routes.{uppers}
use Rattle.theory.specs.Tables.{limit}
use Rattle.order.specs.Outcome.{images}
use Rattle.tree.specs.Exact.{exact_rows, tree_check}
use Rattle.listing_lines.specs.Lines.{reading_text, refused_line}

-- the text where the check passed; where it refused one line and no other
abbrev pub text_if : Check → List ℕ → List ℕ
text_if c m = if_passed refused_line c m

-- header, rows and order line of the link table T
abbrev pub links_text : ℕ → List Row → List ℕ → List ℕ
links_text n T o = reading_text n (fars T) (costs T) (uppers (fars T)) o

-- the exact reading of the cost table t, and the order from 1 with this last image; or its refusal
abbrev pub table_text : ℕ → ℕ → List ℕ → List ℕ
table_text last n t = text_if (tree_check limit n t) (links_text n (exact_rows limit n t) (images n t 1 last))
