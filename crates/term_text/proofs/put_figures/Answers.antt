-- `term_text::put_figures` meets its contract: five words with a number each, and the end of the line. Assumes nothing.
use Rattle.text.specs.Laws.Putting.{put_then}
use Rattle.text.specs.Words.{bytes_of}
use Rattle.term_text.specs.Lines.{figures_line}
use Rattle.term_text.proofs.put_figures.Goals as goal

pub returns : goal.returns
unfolding figures_line bytes_of
returns c = put_then c.put_named-p.ensures (put_then c.put_named-q.ensures (put_then c.put_named-w.ensures (put_then c.put_named-v.ensures (put_then c.put_named-e.ensures c.put_byte.ensures))))
