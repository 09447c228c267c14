-- `term_text::put_named` meets its contract: a word, and a number behind a blank. Assumes nothing.
use Rattle.text.specs.Laws.Putting.{put_then}
use Rattle.term_text.proofs.put_named.Goals as goal

pub returns : goal.returns
returns c = put_then c.put_word-p.ensures c.put_field.ensures
