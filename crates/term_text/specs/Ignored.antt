-- Bytes that cannot matter to a report: those behind as many as 500 of the longest tables have. Assumes nothing.
use Rattle.std.specs.Prelude.{List, [], refl, ◌≡◌, ℕ, ◌*◌, take}
use Rattle.std.proofs.Common.{ap, arith}
use Rattle.theory.specs.Tables.{limit}
use Rattle.bits.specs.Laws.Behind.{first-bytes}
use Rattle.figures.specs.Checks.{most_tables}
use Rattle.term_text.specs.Laws.Behind.{longest_table, read_behind}
use Rattle.term_text.specs.Text.{ended_text, term_text}

-- how many bytes 500 of the longest tables have
abbrev pub longest_input : ℕ
longest_input = 2899000

pub longest_input_lem : longest_input ≡ longest_table * most_tables
longest_input_lem = refl

-- the program need not read more
pub term_ignores : (bytes : List ℕ) → term_text bytes ≡ term_text (take longest_input bytes)
unfolding term_text
term_ignores = first-bytes term_text longest_input (λ x b h. ap ended_text (read_behind limit most_tables [] x b (omega (arith, h))))
