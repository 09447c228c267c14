-- `kemotuiki::kemotuiki_write_costs` meets its contract: the numbers of what the call promises, and the lent slice as it leaves it. Assumes nothing.
use Rattle.numbers.specs.Stored.{of_bytes}
use Rattle.kemotuiki.specs.Laws.Crossing.{left-crossed}
use Rattle.kemotuiki.proofs.kemotuiki_write_costs.Goals as goal

pub returns : goal.returns
returns c =
    left-crossed of_bytes _ (rw c.from.ensures at c.write_costs.ensures) c.into.ensures
