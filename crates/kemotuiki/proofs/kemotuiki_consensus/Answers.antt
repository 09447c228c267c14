-- `kemotuiki::kemotuiki_consensus` meets its contract: the numbers of what the call promises, and the lent slices as it leaves them. Assumes nothing.
use Rattle.numbers.specs.Numbers.{of_shared}
use Rattle.kemotuiki.specs.Laws.Crossing.{left-rows}
use Rattle.kemotuiki.proofs.kemotuiki_consensus.Goals as goal

pub returns : goal.returns
returns c =
    left-rows of_shared _ c.consensus.ensures c.into.ensures
