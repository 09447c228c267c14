-- Settled examples of stored cost tables, computed. Assumes nothing.
use Rattle.std.specs.Prelude.{[], ◌∷◌, refl, ◌≡◌, ◌*◌, ◌+◌, ◌-◌, Ok, Err}
use Rattle.ground.specs.Lowest.{check_all}
use Rattle.ground.specs.Refusals.{refusal}
use Rattle.theory.specs.Tables.{cost}
use Rattle.bits.specs.Bits.{bits, bits_of, part, value_of}
use Rattle.bits.specs.Editions.{edition_of}
use Rattle.bits.specs.Forms.{bytes_of, field_value, filled, field_bits, field_bytes, packed}
use Rattle.bits.specs.Listed.{listed}
use Rattle.cost_forms.specs.Entries.{entry_cost, entries_to, row_entries, row_start, table_of}
use Rattle.cost_forms.specs.Form.{cost_bytes, cost_fields, new_costs, old_costs}
use Rattle.cost_forms.specs.Said.{stored_table, entry_of, fill_of, images_of}
use Rattle.stored_costs.specs.Outcomes.{judged, judged_either}
unfoldable pub use Rattle.stored_costs.specs.Examples.{table_a, stored_a, new_stored_a}

-- it is written as document 01's bytes, and these are read as it
pub example_a_lem : (cost_bytes old_costs 3 (cost table_a 3) ≡ stored_a) × (judged old_costs stored_a 0 9 ≡ Ok (record { n = 3; used = 9 })) × (stored_table old_costs 3 stored_a ≡ table_a)
unfolding table_a stored_a cost_bytes cost_fields field_bytes field_bits packed filled bytes_of bits bits_of value_of part field_value listed entries_to
    row_entries row_start entry_cost table_of images_of entry_of fill_of check_all
example_a_lem = (refl, refl, refl)

-- an entry of 1,000,000 passes, and 1,000,001 gets 4 at its row and column
pub entry-limit : (judged old_costs (cost_bytes old_costs 3 (λ i j. 1000000)) 0 9 ≡ Ok (record { n = 3; used = 9 }))
    × (judged old_costs (cost_bytes old_costs 3 (λ i j. 999999 + j)) 0 9 ≡ Err (refusal 4 1 3 0 0))
unfolding cost_bytes cost_fields field_bytes field_bits packed filled bytes_of bits bits_of value_of part field_value listed entries_to row_entries row_start
    entry_cost table_of images_of entry_of fill_of check_all
entry-limit = (refl, refl)

-- entries 0, 1,000,001 and 0 get 4, which comes before 20; of images 1 and 4 and images 2 and 3, which both cost nothing, the lower row is named
pub zeros_last : (judged old_costs (cost_bytes old_costs 3 (λ i j. (j - i - 1) * 1000001)) 0 9 ≡ Err (refusal 4 1 3 0 0))
    × (judged old_costs (cost_bytes old_costs 4 (λ i j. (3 - (i + j)) + (i + j - 3))) 0 16 ≡ Err (refusal 20 1 4 0 0))
unfolding cost_bytes cost_fields field_bytes field_bits packed filled bytes_of bits bits_of value_of part field_value listed entries_to row_entries row_start
    entry_cost table_of images_of entry_of fill_of check_all
zeros_last = (refl, refl)

-- n 2 and 65 get 1, in one byte
pub images-limit : (judged old_costs (4 ∷ []) 0 0 ≡ Err (refusal 1 2 0 0 0)) × (judged old_costs (130 ∷ []) 0 0 ≡ Err (refusal 1 65 0 0 0))
unfolding bits bits_of value_of part images_of
images-limit = (refl, refl)

-- ## The new form

-- example A with the mark in front and 23 bits for an entry, told by its first seven bits
pub new_example_a : (cost_bytes new_costs 3 (cost table_a 3) ≡ new_stored_a) × (judged_either new_stored_a 0 9 ≡ Ok (record { n = 3; used = 11 }))
    × (stored_table new_costs 3 new_stored_a ≡ table_a)
unfolding table_a new_stored_a cost_bytes cost_fields field_bytes field_bits packed filled bytes_of bits bits_of value_of part field_value listed entries_to
    row_entries row_start entry_cost table_of images_of entry_of fill_of check_all edition_of
new_example_a = (refl, refl, refl)

-- an entry of 8,000,000 passes, and 8,000,001 gets 4
pub new_entry_limit : (judged_either (cost_bytes new_costs 3 (λ i j. 8000000)) 0 9 ≡ Ok (record { n = 3; used = 11 }))
    × (judged_either (cost_bytes new_costs 3 (λ i j. 7999999 + j)) 0 9 ≡ Err (refusal 4 1 3 0 0))
unfolding cost_bytes cost_fields field_bytes field_bits packed filled bytes_of bits bits_of value_of part field_value listed entries_to row_entries row_start
    entry_cost table_of images_of entry_of fill_of check_all edition_of
new_entry_limit = (refl, refl)

-- an entry of 0 gets 20 there too
pub new_zero : judged_either (cost_bytes new_costs 3 (λ i j. 2 - j)) 0 9 ≡ Err (refusal 20 1 3 0 0)
unfolding cost_bytes cost_fields field_bytes field_bits packed filled bytes_of bits bits_of value_of part field_value listed entries_to row_entries row_start
    entry_cost table_of images_of entry_of fill_of check_all edition_of
new_zero = refl

-- the mark needs a second byte, and a second 127 is an n; no bytes are no mark
pub new_heads : (judged_either (255 ∷ []) 0 0 ≡ Err (refusal 9 0 0 0 0))
    × (judged_either (255 ∷ 255 ∷ []) 0 0 ≡ Err (refusal 1 127 0 0 0)) × (judged_either [] 0 0 ≡ Err (refusal 9 0 0 0 0))
unfolding bits bits_of value_of part images_of edition_of
new_heads = (refl, refl, refl)
