-- `kemotuiki::kemotuiki_order` meets its contract: the numbers of what the call promises, and the lent slice as it leaves it. Assumes nothing.
use Rattle.numbers.specs.Numbers.{of_order}
use Rattle.kemotuiki.specs.Laws.Crossing.{left-crossed}
use Rattle.kemotuiki.proofs.kemotuiki_order.Goals as goal

pub returns : goal.returns
returns c =
    left-crossed of_order _ c.order.ensures c.into.ensures
