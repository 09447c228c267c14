-- `kemotuiki::kemotuiki_compare` meets its contract: the numbers of what the call promises. Assumes nothing.
use Rattle.std.proofs.Common.{ap, ◌∙◌}
use Rattle.numbers.specs.Numbers.{of_comparison}
use Rattle.kemotuiki.proofs.kemotuiki_compare.Goals as goal

pub returns : goal.returns
returns c =
    c.into.ensures ∙ ap of_comparison c.compare.ensures
