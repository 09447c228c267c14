-- `listing_lines::put_refusal` meets its contract: a word, five numbers, and the end of the line. Assumes nothing.
use Rattle.text.specs.Laws.Putting.{put_then}
use Rattle.listing_lines.specs.Lines.{refused_line}
use Rattle.text.specs.Words.{bytes_of}
use Rattle.listing_lines.proofs.put_refusal.Goals as goal

pub returns : goal.returns
unfolding refused_line bytes_of
returns c = put_then c.put_word-w.ensures (put_then c.put_field-number.ensures (put_then c.put_field-a.ensures (put_then c.put_field-b.ensures (put_then c.put_field-c.ensures (put_then c.put_field-d.ensures c.put_byte.ensures)))))
