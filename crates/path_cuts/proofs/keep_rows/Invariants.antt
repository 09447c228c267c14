-- `path_cuts::keep_rows` meets its contract: the first i rows are kept, and of the height what is left behind them. Assumes nothing.
use Rattle.path_cuts.specs.Laws.Keeping.{Keeping}
use Rattle.path_cuts.proofs.keep_rows.Given as goal

abbrev pub invariant-loop-i : goal.invariant-loop-i
invariant-loop-i l = Keeping l.h l.add l.i l.m l.initial.sides l.initial.lengths l.togo l.sides l.lengths
