-- `kemotuiki::kemotuiki_replay` meets its contract: the numbers of what the call promises, and the lent slices as it leaves them. Assumes nothing.
use Rattle.numbers.specs.Replays.{of_replayed}
use Rattle.kemotuiki.specs.Laws.Crossing.{left-rows}
use Rattle.kemotuiki.proofs.kemotuiki_replay.Goals as goal

pub returns : goal.returns
returns c =
    left-rows of_replayed _ c.replay.ensures c.into.ensures
