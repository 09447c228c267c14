-- `term_text::put_pairs` meets its contract: three words with a number each, and the end of the line. Assumes nothing.
use Rattle.text.specs.Laws.Putting.{put_then}
use Rattle.text.specs.Words.{bytes_of}
use Rattle.term_text.specs.Lines.{pairs_line}
use Rattle.term_text.proofs.put_pairs.Goals as goal

pub returns : goal.returns
unfolding pairs_line bytes_of
returns c = put_then c.put_named-p.ensures (put_then c.put_named-q.ensures (put_then c.put_named-e.ensures c.put_byte.ensures))
