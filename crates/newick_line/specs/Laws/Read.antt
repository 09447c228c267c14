-- The line of what the exact reading has left. Assumes nothing.
use Rattle.std.specs.Prelude.{List, refl, ◌≡◌, ℕ, take, Err}
use Rattle.std.proofs.Common.{ap, ap₂, sym, ◌∙◌}
use Rattle.ground.specs.declared.Refusal.{Refusal}
use Rattle.theory.specs.Laws.JoinedRows.{rows_of-all}
use Rattle.theory.specs.LinkTables.{rows_of}
use Rattle.theory.specs.Tables.{limit}
use Rattle.tree.specs.Exact.{exact_rows, tree_check}
use Rattle.listing_lines.specs.Lines.{refused_line}
use Rattle.table_text.specs.Laws.Accepted.{RowsRead}
use Rattle.newick_line.specs.Line.{line_of, table_line}

pub line_refused : (n : ℕ) (t : List ℕ) (q : Refusal) → tree_check limit n t ≡ Err q → table_line n t ≡ refused_line q
line_refused n t q e = rw e refl

pub line_read : (n : ℕ) (t : List ℕ) (r : ℕ) (f v : List ℕ) → RowsRead n t r f v → table_line n t ≡ line_of (rows_of (take r f) (take r v))
line_read n t r f v k = rw k.passed (ap line_of (sym (rows_of-all (exact_rows limit n t)) ∙ ap₂ rows_of (sym k.far-sides) (sym k.doubled)))
