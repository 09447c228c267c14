-- `kemotuiki::kemotuiki_index` meets its contract: the numbers of what the call promises. Assumes nothing.
use Rattle.std.proofs.Common.{ap, ◌∙◌}
use Rattle.numbers.specs.Numbers.{of_index}
use Rattle.kemotuiki.proofs.kemotuiki_index.Goals as goal

pub returns : goal.returns
returns c =
    c.into.ensures ∙ ap of_index c.index.ensures
