-- `kemotuiki::kemotuiki_write_batch` meets its contract: the numbers of what the call promises, and the lent slice as it leaves it. Assumes nothing.
use Rattle.numbers.specs.Stored.{of_batched}
use Rattle.kemotuiki.specs.Laws.Crossing.{left-crossed}
use Rattle.kemotuiki.proofs.kemotuiki_write_batch.Goals as goal

pub returns : goal.returns
returns c =
    left-crossed of_batched _ (rw c.from.ensures at c.write_batch.ensures) c.into.ensures
