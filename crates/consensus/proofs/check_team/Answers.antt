-- `consensus::check_team` meets its contract: the first refusal is the answer. Assumes nothing.
use Rattle.std.proofs.Common.{sym, ◌∙◌}
use Rattle.theory.specs.Laws.Checks.{images-passed}
use Rattle.consensus.proofs.Laws.Taking.{number_passed}
use Rattle.consensus.proofs.check_team.Goals as goal

pub check_joined-requires : goal.check_joined-requires
check_joined-requires c = (
  (images-passed _ (sym c.check_images.ensures ∙ c.in_ok-check_images.was)).1,
  (number_passed _ (sym c.check_number.ensures ∙ c.in_ok-check_number.was)).1,
)

pub check_room-requires : goal.check_room-requires
check_room-requires c = images-passed _ (sym c.check_images.ensures ∙ c.in_ok-check_images.was)
