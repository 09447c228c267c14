-- `grafting::close_rows` meets its contract: the first i rows are closed, and of the height what is left behind them. Assumes nothing.
use Rattle.grafting.specs.Laws.Closing.{Closing}
use Rattle.grafting.proofs.close_rows.Given as goal

abbrev pub invariant-loop-i : goal.invariant-loop-i
invariant-loop-i l = Closing l.h l.i l.m l.sides l.lengths l.initial.fars l.initial.costs l.count l.all l.togo l.fars l.costs
