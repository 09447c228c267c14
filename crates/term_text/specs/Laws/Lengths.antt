-- How long the lines of a report can be: there is room for every one of them. Assumes nothing.
use Rattle.report.specs.Outcome.{Report}
use Rattle.ground.specs.Refusals.{Check}
use Rattle.std.specs.Prelude.{List, [], ◌∷◌, ℕ, ◌*◌, ◌≤◌, length, Ok, Err}
use Rattle.std.proofs.Common.{arith, length-append}
use Rattle.ground.specs.declared.Refusal.{Refusal}
use Rattle.text.proofs.Laws.Lengths.{field-most}
use Rattle.text.proofs.Laws.Numbers.{decimal-most}
use Rattle.text.specs.Words.{bytes_of}
use Rattle.listing_lines.specs.Lines.{refused_line}
use Rattle.seen.specs.Seen.{Entry}
use Rattle.figures.specs.declared.Figures.{Figures}
use Rattle.term_text.specs.Lines.{end_line, entry_line, entry_lines, figures_line, pairs_line, sides_line}
use Rattle.term_text.specs.Text.{report_text, report_with, room}

figures_most : (f : Figures) → length (figures_line f) ≤ 140
unfolding figures_line bytes_of
figures_most f =
    simp length-append
    (omega (arith, field-most f.images, field-most f.tables, field-most f.accepted, field-most f.apart, field-most f.used))

pairs_most : (f : Figures) → length (pairs_line f) ≤ 84
unfolding pairs_line bytes_of
pairs_most f = simp length-append (omega (arith, field-most f.pairs, field-most f.count_sum, field-most f.largest_count))

sides-most : (c : ℕ) → length (sides_line c) ≤ 27
unfolding sides_line bytes_of
sides-most c = simp length-append (omega (arith, field-most c))

entry-most : (e : Entry) → length (entry_line e) ≤ 63
unfolding entry_line
entry-most e = simp length-append (omega (arith, decimal-most e.0, field-most e.1, field-most e.2))

entries-most : (E : List Entry) → length (entry_lines E) ≤ 63 * length E
unfolding entry_lines
entries-most [] = omega arith
entries-most (e ∷ E) = simp length-append (omega (arith, entry-most e, entries-most E))

refused-most : (q : Refusal) → length (refused_line q) ≤ 113
unfolding refused_line bytes_of
refused-most q =
    simp length-append (omega (arith, field-most q.number, field-most q.a, field-most q.b, field-most q.c, field-most q.d))

end_most : (k : ℕ) (c : Check) → length (end_line k c) ≤ 140
unfolding end_line bytes_of
end_most k (Ok tt) = omega arith
end_most k (Err q) = simp length-append (omega (arith, field-most k, refused-most q))

-- a report of at most 1,024 far sides
pub report_most : (r : Report) (E : List Entry) → length E ≤ 1024 → length (report_text r E) ≤ room
unfolding report_with
report_most r E h =
    simp length-append
    (omega (
      arith,
      figures_most r.figures,
      pairs_most r.figures,
      sides-most r.figures.sides,
      entries-most E,
      end_most r.table r.stop,
    ))
