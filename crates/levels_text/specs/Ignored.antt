-- Bytes that cannot matter to a listing of levels: those behind the stored table, and so behind the longest one of either form. Assumes nothing.
use Rattle.std.specs.Prelude.{List, ◌++◌, ◌≡◌, ℕ, ◌≤◌, length, take}
use Rattle.cost_forms.specs.Form.{cost_form_at, cost_used}
use Rattle.listing_text.specs.Ignored.{longest_table}
use Rattle.listing_text.proofs.Ignored.{stored_behind, stored_ignores}
use Rattle.listing_text.specs.Listing.{images_said}
use Rattle.levels_text.specs.Listing.{levels_text, table_levels}

-- bytes behind the stored table are ignored
pub levels_behind : (s b : List ℕ) → cost_used (cost_form_at s 0) (images_said s) ≤ length s → levels_text (s ++ b) ≡ levels_text s
unfolding levels_text
levels_behind = stored_behind table_levels

-- so the program need not read more than the longest one has
pub levels_ignores : (s : List ℕ) → levels_text s ≡ levels_text (take longest_table s)
unfolding levels_text
levels_ignores = stored_ignores table_levels
