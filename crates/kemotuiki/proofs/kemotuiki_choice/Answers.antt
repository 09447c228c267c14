-- `kemotuiki::kemotuiki_choice` meets its contract: the numbers of what the call promises. Assumes nothing.
use Rattle.std.proofs.Common.{ap, ◌∙◌}
use Rattle.numbers.specs.Stored.{of_chosen}
use Rattle.kemotuiki.proofs.kemotuiki_choice.Goals as goal

pub returns : goal.returns
returns c =
    c.into.ensures ∙ ap of_chosen c.choice.ensures
