-- `levels_text::put_levels` meets its contract: header and groups, one behind the other. Assumes nothing.
use Rattle.text.specs.Laws.Putting.{put_then}
use Rattle.levels_text.specs.Lines.{groups_text}
use Rattle.levels_text.proofs.put_levels.Goals as goal

pub returns : goal.returns
unfolding groups_text
returns c = put_then c.put_header-p.ensures c.put_groups.ensures
