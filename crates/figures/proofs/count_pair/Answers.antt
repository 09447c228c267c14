-- `figures::count_pair` meets its contract. Assumes nothing.
use Rattle.std.proofs.Common.{sym}
use Rattle.figures.specs.Laws.Pairs.{pair_first, pair_next}
use Rattle.figures.proofs.count_pair.Goals as goal

pub returns-then-before-eq0 : goal.returns-then-before-eq0
returns-then-before-eq0 c = pair_first _ _ _ _ c.if-before-eq0.true

pub returns : goal.returns
returns c = rw c.differ.ensures (sym (pair_next _ _ _ _ c.if-before-eq0.false))
