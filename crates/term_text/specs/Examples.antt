-- The text of small reports, computed: no bytes; E, F, G and E again; and A behind F. Assumes nothing.
use Rattle.std.specs.Prelude.{[], ◌++◌, ◌∷◌, refl, ◌≡◌, Ok, Err}
use Rattle.std.proofs.Common.{ap₂, ◌∙◌}
use Rattle.ground.specs.Refusals.{refusal}
use Rattle.text.specs.Decimal.{decimal, digits}
use Rattle.text.specs.Fields.{field}
use Rattle.text.specs.Words.{bytes_of}
use Rattle.listing_lines.specs.Lines.{newline, refused_line}
use Rattle.seen.specs.Seen.{entries, seen}
use Rattle.figures.specs.Figures.{counts, entries_at, sides_at}
use Rattle.figures.specs.Reading.{read_on}
use Rattle.figures.specs.Tables.{trees}
use Rattle.report.specs.Examples.{four-tables as reported, stored_e, stored_f, stored_g}
use Rattle.term_text.specs.Lines.{end_line, entry_line, entry_lines, figures_line, pairs_line, sides_line}
use Rattle.term_text.specs.Text.{report_text, report_with, term_text}

-- no bytes
pub nothing_read : term_text []
    ≡ bytes_of "images 0 tables 0 accepted 0 apart 0 bytes 0" ++ newline ++ bytes_of "pairs 0 counts 0 largest 0" ++ newline ++ bytes_of "sides 0" ++ newline
unfolding term_text read_on entries_at entries sides_at counts trees seen report_with figures_line pairs_line sides_line entry_lines end_line field decimal digits bytes_of
nothing_read = refl

four-text : report_text
    (record {
      figures = record { images = 4; tables = 4; accepted = 3; apart = 1; sides = 1; pairs = 2; count_sum = 2; largest_count = 1; used = 64 };
      table = 0;
      stop = Ok tt;
    }) ((12, 2, 8) ∷ [])
    ≡ bytes_of "images 4 tables 4 accepted 3 apart 1 bytes 64" ++ newline ++ bytes_of "pairs 2 counts 2 largest 1" ++ newline ++ bytes_of "sides 1" ++ newline
    ++ bytes_of "12 2 8" ++ newline
unfolding report_with figures_line pairs_line sides_line entry_lines entry_line end_line field decimal digits bytes_of
four-text = refl

-- document 01's E, F, G and E
pub four-tables : term_text (stored_e ++ stored_f ++ stored_g ++ stored_e)
    ≡ bytes_of "images 4 tables 4 accepted 3 apart 1 bytes 64" ++ newline ++ bytes_of "pairs 2 counts 2 largest 1" ++ newline ++ bytes_of "sides 1" ++ newline
    ++ bytes_of "12 2 8" ++ newline
unfolding term_text
four-tables = ap₂ report_text reported.0 reported.1 ∙ four-text

-- A, of three images, behind F, of four: the report is `other-images` in the crate report
pub other-images : report_text
    (record {
      figures = record { images = 4; tables = 1; accepted = 0; apart = 1; sides = 0; pairs = 0; count_sum = 0; largest_count = 0; used = 16 };
      table = 2;
      stop = Err (refusal 15 0 0 0 0);
    }) []
    ≡ bytes_of "images 4 tables 1 accepted 0 apart 1 bytes 16" ++ newline ++ bytes_of "pairs 0 counts 0 largest 0" ++ newline ++ bytes_of "sides 0" ++ newline
    ++ bytes_of "table 2 refused 15 0 0 0 0" ++ newline
unfolding report_with figures_line pairs_line sides_line entry_lines end_line refused_line field decimal digits bytes_of
other-images = refl
