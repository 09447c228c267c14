-- `term_text::put_sides` meets its contract: what is left to write loses its first line in each turn. Assumes nothing.
use Rattle.std.proofs.Common.{rules}
use Rattle.listing_lines.proofs.Laws.Turns.{row_step}
use Rattle.term_text.proofs.put_sides.Goals as goal

pub loop-i-preserved : goal.loop-i-preserved
loop-i-preserved c = search (rules, row_step)
