-- `kemotuiki::kemotuiki_path` meets its contract: the numbers of what the call promises. Assumes nothing.
use Rattle.std.proofs.Common.{ap, ◌∙◌}
use Rattle.numbers.specs.Numbers.{of_path}
use Rattle.kemotuiki.proofs.kemotuiki_path.Goals as goal

pub returns : goal.returns
returns c =
    c.into.ensures ∙ ap of_path c.path.ensures
