-- `index_more::least_more` meets its contract: best is the least over the places so far. Assumes nothing.
use Rattle.ground.specs.Laws.Least.{least_on-turn}
use Rattle.index_more.proofs.least_more.Goals as goal

pub loop-e-preserved : goal.loop-e-preserved
loop-e-preserved c = least_on-turn _ _ _ _ _ c.loop-e.invariant (rw c.from.ensures at c.turn_more-best.ensures)
