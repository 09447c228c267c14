-- `kemotuiki::kemotuiki_exact_grafted` meets its contract: the numbers of what the call promises, and the lent slices as it leaves them. Assumes nothing.
use Rattle.numbers.specs.Numbers.{of_rows}
use Rattle.kemotuiki.specs.Laws.Crossing.{left-rows}
use Rattle.kemotuiki.proofs.kemotuiki_exact_grafted.Goals as goal

pub returns : goal.returns
returns c =
    left-rows of_rows _ c.exact.ensures c.into.ensures
