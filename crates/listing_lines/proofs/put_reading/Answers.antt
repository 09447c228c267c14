-- `listing_lines::put_reading` meets its contract: header, rows and order, one behind the other. Assumes nothing.
use Rattle.text.specs.Laws.Putting.{put_then}
use Rattle.listing_lines.specs.Lines.{reading_text}
use Rattle.listing_lines.proofs.put_reading.Goals as goal

pub returns : goal.returns
unfolding reading_text
returns c = put_then c.put_header-p.ensures (put_then c.put_rows-q.ensures c.put_order.ensures)
