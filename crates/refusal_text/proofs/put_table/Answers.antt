-- `refusal_text::put_table` meets its contract: a word, the table and a colon, or nothing. Assumes nothing.
use Rattle.text.specs.Laws.Putting.{put_then}
use Rattle.text.specs.Words.{bytes_of}
use Rattle.refusal_text.specs.Laws.About.{about-one}
use Rattle.refusal_text.proofs.put_table.Goals as goal

pub returns : goal.returns
unfolding bytes_of
returns c =
    rw (about-one _ _ c.if-number-eq0.false c.if-table-eq0.false)
    (put_then c.put_word-p.ensures (put_then c.put_field-q.ensures c.put_word.ensures))
