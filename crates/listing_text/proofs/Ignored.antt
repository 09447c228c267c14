-- Bytes that cannot matter to a listing, or to whatever is said of a stored cost table: those behind the stored table, and so behind the longest
-- one of either form. Assumes nothing.
use Rattle.std.specs.Prelude.{List, ◌++◌, refl, ◌≡◌, ℕ, ◌≤◌, length, take}
use Rattle.std.proofs.Common.{arith}
use Rattle.bits.specs.Editions.{edition_of}
use Rattle.bits.specs.Laws.Behind.{first-bytes}
use Rattle.bits.specs.declared.Edition.{Edition}
use Rattle.bits.specs.declared.Edition.TheVariants.{New, Old}
use Rattle.cost_forms.specs.Entries.{row_start}
use Rattle.cost_forms.specs.Form.{cost_form, cost_form_at, cost_used, new_costs}
use Rattle.stored_costs.proofs.Laws.Behind.{longest_reaches, whole-reaches}
use Rattle.listing_text.specs.Laws.Behind.{stored_reached}
use Rattle.listing_text.specs.Listing.{images_said, listing_text, stored_text, text_with}
use Rattle.listing_text.specs.declared.Last.{Last}
pub use Rattle.listing_text.specs.Ignored.{longest_table}

pub longest_table_lem : longest_table ≡ cost_used new_costs 64
unfolding row_start
longest_table_lem = refl

-- none is longer, in either form
pub none_longer : (e : Edition) → cost_used (cost_form e) 64 ≤ longest_table
unfolding row_start
none_longer Old = omega arith
none_longer New = omega arith

-- what is said of a stored table has nothing to do with the bytes behind it
module _ (said : ℕ → List ℕ → List ℕ) where
  pub stored_behind : (s b : List ℕ) → cost_used (cost_form_at s 0) (images_said s) ≤ length s → stored_text said (s ++ b) ≡ stored_text said s
  stored_behind s b h = stored_reached said s b (whole-reaches (cost_form_at s 0) s h)

  -- so a program need not read more than the longest one has
  pub stored_ignores : (s : List ℕ) → stored_text said s ≡ stored_text said (take longest_table s)
  stored_ignores s =
      first-bytes (stored_text said) longest_table
      (λ x b h. stored_reached said x b (longest_reaches (cost_form_at x 0) x (omega (arith, h, none_longer (edition_of x))))) s

-- bytes behind the stored table are ignored by a listing
pub listing_behind : (which : Last) (s b : List ℕ) → cost_used (cost_form_at s 0) (images_said s) ≤ length s → listing_text which (s ++ b) ≡ listing_text which s
unfolding listing_text
listing_behind which = stored_behind (text_with which)

pub listing_ignores : (which : Last) (s : List ℕ) → listing_text which s ≡ listing_text which (take longest_table s)
unfolding listing_text
listing_ignores which = stored_ignores (text_with which)
