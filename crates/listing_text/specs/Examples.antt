-- Settled examples of the listing, computed. Assumes nothing.
use Rattle.std.specs.Prelude.{[], ◌∷◌, refl, ◌≡◌}
use Rattle.std.specs.Int.Count.{ones, ones_in}
use Rattle.ground.specs.Least.{least_on}
use Rattle.ground.specs.Lowest.{check_all}
use Rattle.theory.specs.Index.{shifted}
use Rattle.theory.specs.Order.{grow, next}
use Rattle.far_end.specs.FarEnd.{farthest}
use Rattle.bits.specs.Bits.{bits, bits_of, part, value_of}
use Rattle.bits.specs.Editions.{edition_of}
use Rattle.bits.specs.Forms.{field_value}
use Rattle.bits.specs.Listed.{listed}
use Rattle.cost_forms.specs.Entries.{entry_cost, row_start, table_of}
use Rattle.cost_forms.specs.Said.{entry_of, fill_of, images_of}
use Rattle.tree.specs.Exact.{exact_rows, tree_check}
use Rattle.text.specs.Decimal.{decimal, digits}
use Rattle.text.specs.Fields.{field, fields}
use Rattle.text.specs.Words.{bytes_of}
use Rattle.listing_lines.specs.Lines.{header, order_line, reading_text, refused_line, row_line, row_lines}
use Rattle.listing_text.specs.Listing.{listing_text}
use Rattle.listing_text.specs.declared.Last.{Last}
use Rattle.listing_text.specs.declared.Last.TheVariants.{FarEnd, ImageN}

-- example A from its stored bytes: its rows, their upper rows, and the order, whose last image is the lowest of two that cost the same
pub example_a_lem : listing_text FarEnd (0x06 ∷ 0x00 ∷ 0x00 ∷ 0x20 ∷ 0x00 ∷ 0x02 ∷ 0x00 ∷ 0x00 ∷ 0x20 ∷ [])
    ≡ bytes_of "images 3 rows 3\n2 1 3\n4 1 3\n6 1 0\norder 1 3 2\n"
unfolding listing_text edition_of bits bits_of value_of part field_value listed row_start entry_cost table_of images_of entry_of fill_of check_all tree_check
    least_on ones ones_in shifted exact_rows grow next farthest reading_text header row_lines row_line order_line fields field decimal digits bytes_of
example_a_lem = refl

-- and with last n
pub example_a_last_n : listing_text ImageN (0x06 ∷ 0x00 ∷ 0x00 ∷ 0x20 ∷ 0x00 ∷ 0x02 ∷ 0x00 ∷ 0x00 ∷ 0x20 ∷ [])
    ≡ bytes_of "images 3 rows 3\n2 1 3\n4 1 3\n6 1 0\norder 1 2 3\n"
unfolding listing_text edition_of bits bits_of value_of part field_value listed row_start entry_cost table_of images_of entry_of fill_of check_all tree_check
    least_on ones ones_in shifted exact_rows grow next reading_text header row_lines row_line order_line fields field decimal digits bytes_of
example_a_last_n = refl

-- three images, every cost 8,000,000, which the new form alone holds
pub example_new_form : listing_text FarEnd (0xfe ∷ 0x0f ∷ 0xd0 ∷ 0x90 ∷ 0x07 ∷ 0xa1 ∷ 0x20 ∷ 0x0f ∷ 0x42 ∷ 0x40 ∷ 0x00 ∷ [])
    ≡ bytes_of "images 3 rows 3\n2 8000000 3\n4 8000000 3\n6 8000000 0\norder 1 3 2\n"
unfolding listing_text edition_of bits bits_of value_of part field_value listed row_start entry_cost table_of images_of entry_of fill_of check_all tree_check
    least_on ones ones_in shifted exact_rows grow next farthest reading_text header row_lines row_line order_line fields field decimal digits bytes_of
example_new_form = refl

-- example C from its stored bytes, whichever image would be last
pub example_c_lem : (which : Last) → listing_text which (0x06 ∷ 0x00 ∷ 0x00 ∷ 0x20 ∷ 0x00 ∷ 0x02 ∷ 0x00 ∷ 0x00 ∷ 0x60 ∷ [])
    ≡ bytes_of "refused 7 1 1 2 3\n"
unfolding listing_text edition_of bits bits_of value_of part field_value listed row_start entry_cost table_of images_of entry_of fill_of check_all tree_check
    refused_line field decimal digits bytes_of
example_c_lem which = refl
