-- `listing_lines::put_rows` meets its contract: what is left to write loses its first line in each turn. Assumes nothing.
use Rattle.std.proofs.Common.{rules}
use Rattle.listing_lines.proofs.Laws.Turns.{row_step}
use Rattle.listing_lines.proofs.put_rows.Goals as goal

pub loop-i-preserved : goal.loop-i-preserved
loop-i-preserved c = search (rules, row_step)
