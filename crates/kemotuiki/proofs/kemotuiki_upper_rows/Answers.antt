-- `kemotuiki::kemotuiki_upper_rows` meets its contract: the numbers of what the call promises, and the lent slice as it leaves it. Assumes nothing.
use Rattle.numbers.specs.Numbers.{of_rows}
use Rattle.kemotuiki.specs.Laws.Crossing.{left-crossed}
use Rattle.kemotuiki.proofs.kemotuiki_upper_rows.Goals as goal

pub returns : goal.returns
returns c =
    left-crossed of_rows _ c.upper_rows.ensures c.into.ensures
