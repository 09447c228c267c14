-- `kemotuiki::kemotuiki_read_newick` meets its contract: the numbers of what the call promises, and the lent slices as it leaves them. Assumes nothing.
use Rattle.numbers.specs.Stored.{of_tree}
use Rattle.kemotuiki.specs.Laws.Crossing.{left-rows}
use Rattle.kemotuiki.proofs.kemotuiki_read_newick.Goals as goal

pub returns : goal.returns
returns c =
    left-rows of_tree _ c.read_newick.ensures c.into.ensures
