-- `path_cuts::keep_rows` meets its contract: the first i rows are kept, and of the height what is left behind them. Assumes nothing.
use Rattle.std.proofs.Common.{arith}
use Rattle.path_cuts.specs.Laws.Keeping.{keeping_more, keeping_start}
use Rattle.path_cuts.proofs.keep_rows.Goals as goal

pub loop-i-init : goal.loop-i-init
loop-i-init c = keeping_start _ _ _ _ _ c.requires

pub loop-i-preserved : goal.loop-i-preserved
loop-i-preserved c = keeping_more _ _ _ _ _ c.requires _ _ _ _ c.loop-i.invariant c.loop-i-test.true _ (omega arith) c.min-stays.ensures
