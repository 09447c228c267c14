-- The text of a term report, and what the call answers: the text in an array with room for every one of them. Assumes nothing.
use Rattle.std.specs.Prelude.{List, ◌++◌, ◌≡◌, ℕ, ◌≤◌, length, replicate, take}
use Rattle.ground.specs.Buffers.{front}
use Rattle.theory.specs.Tables.{limit}
use Rattle.seen.specs.Seen.{Entry}
use Rattle.figures.specs.Figures.{entries_at}
use Rattle.figures.specs.Reading.{Ended, read_all}
use Rattle.report.specs.Outcome.{report_of, Report}
use Rattle.term_text.specs.Lines.{end_line, entry_lines, figures_line, pairs_line, sides_line}

-- the report r, with the lines m of the far sides
unfoldable pub report_with : Report → List ℕ → List ℕ
report_with r m = figures_line r.figures ++ (pairs_line r.figures ++ (sides_line r.figures.sides ++ (m ++ end_line r.table r.stop)))

-- the report r, with the entries E
abbrev pub report_text : Report → List Entry → List ℕ
report_text r E = report_with r (entry_lines E)

-- that of the tables read
abbrev pub ended_text : Ended → List ℕ
ended_text e = report_text (report_of limit e) (entries_at limit e.read)

-- of the stored cost tables in the bytes
unfoldable pub term_text : List ℕ → List ℕ
term_text bytes = ended_text (read_all limit bytes)

-- ## What the call answers

-- room for every report: 1,024 far sides, with numbers of 64 bits
abbrev pub room : ℕ
room = 66560

-- the text's length, and the text in front of an array that is otherwise 0
pub record Printed (bytes : List ℕ) (size : ℕ) (text : List ℕ) : Type 0 where
  pub sized : size ≡ length (term_text bytes)
  pub printed : text ≡ front (term_text bytes) (replicate room 0)

-- the first size places of a text are there; both parts are said so that a caller who takes them needs no proof
abbrev pub Within : ℕ → List ℕ → Type 0
Within size text = (size ≤ length text) × (size ≡ length (take size text))
