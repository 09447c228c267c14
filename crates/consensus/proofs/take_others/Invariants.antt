-- `consensus::take_others` meets its contract: the rows held are those that the first k tables share. Assumes nothing.
use Rattle.theory.specs.Tables.{limit}
use Rattle.consensus.specs.Taking.{Shares}
use Rattle.consensus.proofs.take_others.Given as goal

abbrev pub invariant-loop-k : goal.invariant-loop-k
invariant-loop-k l = Shares limit l.n l.tables l.k l.fars l.costs l.count
