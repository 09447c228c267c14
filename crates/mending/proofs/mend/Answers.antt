-- `mending::mend` meets its contract: the first i rows are renamed and joined, and those from place i on stand where they stood, since no
-- more rows come out than went in. Assumes nothing.
use Rattle.mending.specs.Laws.Joining.{join_more, join-room, join-start}
use Rattle.mending.proofs.mend.Goals as goal

pub loop-i-init : goal.loop-i-init
loop-i-init c = join-start _ _ _ _ c.requires.2.kept.far-room c.requires.2.kept.cost-room

pub keep_row-all-requires : goal.keep_row-all-requires
keep_row-all-requires c = join-room _ _ _ _ _ _ _ _ c.loop-i.invariant _ c.requires.2 c.loop-i-test.true

pub loop-i-preserved : goal.loop-i-preserved
loop-i-preserved c = join_more _ _ _ _ _ _ _ _ c.loop-i.invariant _ _ _ _ c.rename-s.ensures c.keep_row-all.ensures
