-- `kemotuiki::kemotuiki_route` meets its contract: the numbers of what the call promises, and the lent slice as it leaves it. Assumes nothing.
use Rattle.numbers.specs.Numbers.{of_rows}
use Rattle.kemotuiki.specs.Laws.Crossing.{left-crossed}
use Rattle.kemotuiki.proofs.kemotuiki_route.Goals as goal

pub returns : goal.returns
returns c =
    left-crossed of_rows _ c.route.ensures c.into.ensures
