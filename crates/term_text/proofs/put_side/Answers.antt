-- `term_text::put_side` meets its contract: three numbers and the end of the line, one behind the other. Assumes nothing.
use Rattle.text.specs.Laws.Putting.{put_then}
use Rattle.listing_lines.specs.Lines.{row_line}
use Rattle.term_text.proofs.put_side.Goals as goal

pub returns : goal.returns
unfolding row_line
returns c = put_then c.put_number-p.ensures (put_then c.put_field-q.ensures (put_then c.put_field-e.ensures c.put_byte.ensures))
