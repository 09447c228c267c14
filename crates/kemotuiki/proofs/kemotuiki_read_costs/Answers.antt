-- `kemotuiki::kemotuiki_read_costs` meets its contract: the numbers of what the call promises, and the lent slice as it leaves it. Assumes nothing.
use Rattle.numbers.specs.Stored.{of_costs}
use Rattle.kemotuiki.specs.Laws.Crossing.{left-crossed}
use Rattle.kemotuiki.proofs.kemotuiki_read_costs.Goals as goal

pub returns : goal.returns
returns c =
    left-crossed of_costs _ c.read_costs.ensures c.into.ensures
