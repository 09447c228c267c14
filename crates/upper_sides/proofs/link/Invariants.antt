-- `upper_sides::link` meets its contract: the sides below place i have gone by. Assumes nothing.
use Rattle.upper_sides.specs.Links.{Linking}
use Rattle.upper_sides.proofs.link.Given as goal

abbrev pub invariant-loop-i : goal.invariant-loop-i
invariant-loop-i l = Linking l.sides l.count l.i l.seen l.links
