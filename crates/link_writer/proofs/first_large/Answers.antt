-- `link_writer::first_large` meets its contract: no row below k has too large a cost. Assumes nothing.
use Rattle.std.proofs.Common.{arith, lt-ltb, rules}
use Rattle.ground.specs.Laws.First.{first_here, first_none}
use Rattle.link_writer.proofs.first_large.Goals as goal

pub returns-then-most-costs : goal.returns-then-most-costs
returns-then-most-costs c = first_here _ _ _ (search rules) c.loop-k.invariant (lt-ltb _ _ c.if-most-costs.true)

pub returns : goal.returns
returns c = first_none _ _ _ (search rules) (search rules) (λ k h. c.loop-k.invariant k (omega arith))
