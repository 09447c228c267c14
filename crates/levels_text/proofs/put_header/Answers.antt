-- `levels_text::put_header` meets its contract: two words with a number each, and the end of the line. Assumes nothing.
use Rattle.text.specs.Laws.Putting.{put_then}
use Rattle.text.specs.Words.{bytes_of}
use Rattle.levels_text.specs.Lines.{header}
use Rattle.levels_text.proofs.put_header.Goals as goal

pub returns : goal.returns
unfolding header bytes_of
returns c = put_then c.put_word-p.ensures (put_then c.put_field-q.ensures (put_then c.put_word-w.ensures (put_then c.put_field-e.ensures c.put_byte.ensures)))
