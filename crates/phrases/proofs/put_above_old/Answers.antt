-- `phrases::put_above_old` meets its contract, with a column and without. Assumes nothing.
use Rattle.std.proofs.Common.{ne_eqb}
use Rattle.text.specs.Fields.{fields}
use Rattle.text.specs.Words.{bytes_of}
use Rattle.phrases.specs.Said.{saying_text}
use Rattle.phrases.proofs.put_above_old.Goals as goal

pub returns-then-column-eq0 : goal.returns-then-column-eq0
unfolding saying_text bytes_of fields
returns-then-column-eq0 c = rw c.if-column-eq0.true c.put_one.ensures

pub returns : goal.returns
unfolding saying_text bytes_of fields
returns c = rw (ne_eqb _ _ c.if-column-eq0.false) c.put_two.ensures
