-- `grafting::close_rows` meets its contract: the first i rows are closed, and of the height what is left behind them. Assumes nothing.
use Rattle.grafting.specs.Laws.Closing.{closing_more, closing_room, closing_start}
use Rattle.grafting.proofs.close_rows.Goals as goal

pub loop-i-init : goal.loop-i-init
loop-i-init c = closing_start _ _ _ _ _ _ _ c.requires

pub close_row-all-requires : goal.close_row-all-requires
close_row-all-requires c =
    closing_room _ _ _ _ _ _ _ c.requires _ _ _ _ _ c.loop-i.invariant c.loop-i-test.true _ c.min-stays.ensures

pub loop-i-preserved : goal.loop-i-preserved
loop-i-preserved c =
    closing_more _ _ _ _ _ _ _ c.requires _ _ _ _ _ c.loop-i.invariant c.loop-i-test.true _ _ _ _ c.min-stays.ensures c.close_row-all.ensures
