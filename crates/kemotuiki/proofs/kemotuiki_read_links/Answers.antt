-- `kemotuiki::kemotuiki_read_links` meets its contract: the numbers of what the call promises, and the lent slices as it leaves them. Assumes nothing.
use Rattle.numbers.specs.Stored.{of_links}
use Rattle.kemotuiki.specs.Laws.Crossing.{left-rows}
use Rattle.kemotuiki.proofs.kemotuiki_read_links.Goals as goal

pub returns : goal.returns
returns c =
    left-rows of_links _ c.read_links.ensures c.into.ensures
