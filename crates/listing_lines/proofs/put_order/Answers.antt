-- `listing_lines::put_order` meets its contract: a word, the fields, and the end of the line. Assumes nothing.
use Rattle.text.specs.Laws.Putting.{put_then}
use Rattle.listing_lines.specs.Lines.{order_line}
use Rattle.text.specs.Words.{bytes_of}
use Rattle.listing_lines.proofs.put_order.Goals as goal

pub returns : goal.returns
unfolding order_line bytes_of
returns c = put_then c.put_word-p.ensures (put_then c.put_fields-e.ensures c.put_byte.ensures)
