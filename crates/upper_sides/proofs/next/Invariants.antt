-- `upper_sides::next` meets its contract: no side from `from` up to place j contains s. Assumes nothing.
use Rattle.upper_sides.specs.Laws.Uppers.{Passed}
use Rattle.upper_sides.proofs.next.Given as goal

abbrev pub invariant-loop-j : goal.invariant-loop-j
invariant-loop-j l = Passed l.sides l.s l.from l.j
