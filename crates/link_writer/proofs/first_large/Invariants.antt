-- `link_writer::first_large` meets its contract: no row below k has too large a cost. Assumes nothing.
use Rattle.ground.specs.First.{NoneBelow}
use Rattle.link_writer.specs.Writing.{large}
use Rattle.link_writer.proofs.first_large.Given as goal

abbrev pub invariant-loop-k : goal.invariant-loop-k
invariant-loop-k l = NoneBelow (large l.most l.costs) l.k
