-- `newick_rows::put_below`: what falls is the row.
use Rattle.newick_rows.proofs.+put_below.Given as goal

abbrev pub decreases-put_below : goal.decreases-put_below
decreases-put_below l = l.k
