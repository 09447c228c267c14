-- `term_text::put_refused` meets its contract: a word, two pieces behind it, and the refusal. Assumes nothing.
use Rattle.text.specs.Laws.Putting.{put_then}
use Rattle.text.specs.Words.{bytes_of}
use Rattle.term_text.specs.Lines.{end_line}
use Rattle.term_text.proofs.put_refused.Goals as goal

pub returns : goal.returns
unfolding end_line bytes_of
returns c = put_then c.put_named-p.ensures (put_then c.put_byte-w.ensures c.put_refusal.ensures)
