-- The checks of a listing of levels by their numbers: its text is the line of the first refusal, or the accepted one. Assumes nothing.
use Rattle.std.specs.Prelude.{List, ◌++◌, ℕ}
use Rattle.ground.specs.InOrder.{Decides, InOrder}
use Rattle.ground.specs.Laws.InOrder.{decides_last, join-order}
use Rattle.ground.specs.Steps.{Step}
use Rattle.leveling.specs.InOrder.{levels_order, levels_steps}
use Rattle.cost_forms.specs.Form.{cost_form_at}
use Rattle.stored_costs.specs.InOrder.{table_steps}
use Rattle.stored_costs.proofs.InOrder.{table-order}
use Rattle.listing_lines.specs.Lines.{refused_line}
use Rattle.listing_text.specs.Listing.{images_said}
use Rattle.levels_text.specs.Listing.{levels_text}
use Rattle.levels_text.specs.Promises.{cost_said, groups_said, levels_checks_lem, levels_said}

-- 9, 1, 9, 11, 4, 20, 21
abbrev pub listing_steps : List ℕ → List Step
listing_steps s = table_steps (cost_form_at s 0) s ++ levels_steps (cost_said s) (images_said s)

pub listing_order : (s : List ℕ) → InOrder (listing_steps s) (levels_said s)
listing_order s = join-order (table-order (cost_form_at s 0) s) (levels_order (cost_said s) (images_said s))

-- the line of the first check that refuses, which has that check's number; the groups where all pass
pub levels_decides : (s : List ℕ) → Decides (λ m. refused_line) (listing_steps s) (groups_said s) (levels_text s)
levels_decides s = rw (levels_checks_lem s) (decides_last (λ m. refused_line) 0 (groups_said s) (listing_order s))
