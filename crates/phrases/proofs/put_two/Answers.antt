-- `phrases::put_two` meets its contract: the words, and each place behind them. Assumes nothing.
use Rattle.text.specs.Fields.{fields}
use Rattle.text.specs.Laws.Putting.{put_end, put_then}
use Rattle.phrases.proofs.put_two.Goals as goal

pub returns : goal.returns
unfolding fields
returns c = put_then c.put_word-p.ensures (put_then c.put_field-q.ensures (put_end c.put_field.ensures))
