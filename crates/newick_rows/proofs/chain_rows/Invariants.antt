-- `newick_rows::chain_rows` meets its contract: the chains of the first i rows are there. Assumes nothing.
use Rattle.newick_rows.proofs.Laws.Chains.{Linked}
use Rattle.newick_rows.proofs.chain_rows.Given as goal

abbrev pub invariant-loop-i : goal.invariant-loop-i
invariant-loop-i l = Linked l.above l.before l.latest l.i
