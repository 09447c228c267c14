-- `kemotuiki::kemotuiki_levels` meets its contract: the numbers of what the call promises, and the lent slices as it leaves them. Assumes nothing.
use Rattle.numbers.specs.Levels.{of_levels}
use Rattle.kemotuiki.specs.Laws.Crossing.{left_levels}
use Rattle.kemotuiki.proofs.kemotuiki_levels.Goals as goal

pub returns : goal.returns
returns c =
    left_levels of_levels _ c.levels.ensures c.into.ensures
