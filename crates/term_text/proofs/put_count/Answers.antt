-- `term_text::put_count` meets its contract: a word with its number, and the end of the line. Assumes nothing.
use Rattle.text.specs.Laws.Putting.{put_then}
use Rattle.text.specs.Words.{bytes_of}
use Rattle.term_text.specs.Lines.{sides_line}
use Rattle.term_text.proofs.put_count.Goals as goal

pub returns : goal.returns
unfolding sides_line bytes_of
returns c = put_then c.put_named-e.ensures c.put_byte.ensures
