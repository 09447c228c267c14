-- `levels_text::put_group` meets its contract: two numbers, the images and the end of the line, one behind the other. Assumes nothing.
use Rattle.text.specs.Laws.Putting.{put_then}
use Rattle.levels_text.specs.Lines.{group_line}
use Rattle.levels_text.proofs.put_group.Goals as goal

pub returns : goal.returns
unfolding group_line
returns c = put_then c.put_number-p.ensures (put_then c.put_field-q.ensures (put_then c.put_images-e.ensures c.put_byte.ensures))
