-- `grafting::own_rows` meets its contract: the own links of the images 1 to i are there, and at the end that of image 0. Assumes nothing.
use Rattle.grafting.specs.Laws.OwnTable.{OwnTo}
use Rattle.grafting.proofs.own_rows.Given as goal

abbrev pub invariant-loop-i : goal.invariant-loop-i
invariant-loop-i l = OwnTo l.n l.i l.initial.fars l.initial.costs l.fars l.costs
