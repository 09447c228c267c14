-- `index_more::sides` meets its contract: the images below b are split. Assumes nothing.
use Rattle.ground.specs.Bits.{bit}
use Rattle.index_more.specs.Sides.{BothSides}
use Rattle.index_more.proofs.sides.Given as goal

abbrev pub invariant-loop-b : goal.invariant-loop-b
invariant-loop-b l = BothSides (bit l.s) l.h l.b l.count l.own l.other
