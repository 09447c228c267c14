-- `ground::advance` meets its contract. Assumes nothing.
use borrow.Author.Tests.{le-leb, lt-leb}
use Rattle.ground.specs.Merges.{advance}
use Rattle.ground.proofs.advance.Goals as goal

pub returns-then-x-y : goal.returns-then-x-y
unfolding advance
returns-then-x-y c = rw (le-leb _ _ c.if-x-y.true)

pub returns-else-x-y : goal.returns-else-x-y
unfolding advance
returns-else-x-y c = rw (lt-leb _ _ c.if-x-y.false)
