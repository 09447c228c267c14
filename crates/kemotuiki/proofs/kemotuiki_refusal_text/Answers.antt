-- `kemotuiki::kemotuiki_refusal_text` meets its contract: the numbers of what the call promises, and the lent slice as it leaves it. Assumes nothing.
use Rattle.numbers.specs.Stored.{of_bytes}
use Rattle.kemotuiki.specs.Laws.Crossing.{left-crossed}
use Rattle.kemotuiki.proofs.kemotuiki_refusal_text.Goals as goal

pub returns : goal.returns
returns c =
    left-crossed of_bytes _ c.refusal_text.ensures c.into.ensures
