-- `text::put_field` meets its contract: one blank, then the number. Assumes nothing.
use Rattle.text.specs.Fields.{field}
use Rattle.text.specs.Laws.Putting.{put_then}
use Rattle.text.proofs.put_field.Goals as goal

pub returns : goal.returns
unfolding field
returns c = put_then c.put_byte-p.ensures c.put_number.ensures
