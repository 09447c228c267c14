-- `index_more::sides` meets its contract: the images below b are split. Assumes nothing.
use Rattle.index_more.specs.Laws.Sides.{split_none}
use Rattle.index_more.proofs.sides.Goals as goal

pub loop-b-init : goal.loop-b-init
loop-b-init c = split_none _ _ _ _
