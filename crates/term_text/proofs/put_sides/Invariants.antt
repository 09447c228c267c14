-- `term_text::put_sides` meets its contract: what is left to write loses its first line in each turn. Assumes nothing.
use Rattle.std.proofs.Common.{drop}
use Rattle.listing_lines.specs.Lines.{row_lines}
use Rattle.text.specs.Putting.{Rest}
use Rattle.term_text.proofs.put_sides.Given as goal

abbrev pub invariant-loop-i : goal.invariant-loop-i
invariant-loop-i l = Rest (row_lines (drop l.i l.fars) (drop l.i l.trees) (drop l.i l.sums)) l.place l.out (row_lines l.fars l.trees l.sums) l.at l.initial.out
