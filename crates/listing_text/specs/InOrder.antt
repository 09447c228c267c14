-- The checks of a listing by their numbers: its text is the line of the first refusal, or the accepted one. Assumes nothing.
use Rattle.std.specs.Prelude.{List, ◌++◌, refl, ◌≡◌, ℕ, Ok, Err}
use Rattle.ground.specs.InOrder.{Decides, InOrder}
use Rattle.ground.specs.Laws.InOrder.{decides_last, join-order}
use Rattle.ground.specs.Refusals.{◌then◌, Check}
use Rattle.ground.specs.Steps.{Step}
use Rattle.theory.specs.Tables.{cost, limit}
use Rattle.wiring.specs.Check.{wiring_check}
use Rattle.wiring.specs.InOrder.{wiring_order, wiring_steps}
use Rattle.cost_forms.specs.Form.{cost_form_at}
use Rattle.stored_costs.specs.InOrder.{table_steps}
use Rattle.stored_costs.proofs.InOrder.{table-order}
use Rattle.tree.specs.Exact.{tree_check}
use Rattle.listing_lines.specs.Lines.{refused_line}
use Rattle.listing_text.specs.Listing.{images_said, listing_text, stored_checks, table_said}
use Rattle.listing_text.specs.Promises.{accepted_text, listing_checks_lem, listing_wiring, listing_checks}
use Rattle.listing_text.specs.declared.Last.{Last}

-- 9, 1, 9, 11, 4, 20, 7
abbrev pub listing_steps : List ℕ → List Step
listing_steps s = table_steps (cost_form_at s 0) s ++ wiring_steps (cost (table_said s) (images_said s)) (images_said s)

-- of two checks the second counts only where the first passed
behind : (c d w : Check) → (c ≡ Ok tt → (c then d) ≡ w) → (c then d) ≡ (c then w)
behind (Ok tt) d w h = h refl
behind (Err q) d w h = refl

-- of the exact reading's checks 7 alone is left, since a stored table that passes its own is well-formed
only_wiring : (s : List ℕ) → listing_checks s ≡ (stored_checks s then wiring_check (cost (table_said s) (images_said s)) (images_said s))
only_wiring s =
    behind (stored_checks s) (tree_check limit (images_said s) (table_said s)) (wiring_check (cost (table_said s) (images_said s)) (images_said s)) (listing_wiring s)

pub listing_order : (s : List ℕ) → InOrder (listing_steps s) (listing_checks s)
listing_order s = rw (only_wiring s) (join-order (table-order (cost_form_at s 0) s) (wiring_order (cost (table_said s) (images_said s)) (images_said s)))

-- each listing prints the line of the first check that refuses, which has that check's number; the accepted text where all pass
pub listing_decides : (which : Last) (s : List ℕ) → Decides (λ m. refused_line) (listing_steps s) (accepted_text which s) (listing_text which s)
listing_decides which s = rw (listing_checks_lem which s) (decides_last (λ m. refused_line) 0 (accepted_text which s) (listing_order s))
