-- Settled examples of stored link tables, computed. Assumes nothing.
use Rattle.std.specs.Prelude.{List, [], ◌∷◌, refl, ◌≡◌, ℕ, Ok, Err}
use Rattle.std.specs.Int.Count.{ones, ones_in}
use Rattle.ground.specs.First.{first}
use Rattle.ground.specs.Refusals.{refusal}
use Rattle.bits.specs.Bits.{bits, bits_of, part, value_of}
use Rattle.bits.specs.Editions.{edition_of}
use Rattle.bits.specs.Forms.{bytes_of, filled, field_bits, field_bytes, packed}
use Rattle.bits.specs.Listed.{listed}
use Rattle.bad_rows.specs.BadRows.{bad_row, missing}
use Rattle.link_forms.specs.Form.{link_bytes, link_fields, new_links, old_links, rows_to}
use Rattle.stored_links.specs.Outcomes.{judged, judged_either}
use Rattle.link_forms.specs.Said.{cost_at, costs_of, count_of, far_at, fars_of, fill_of, images_of}

-- example A: three images, the rows 2:1, 4:1, 6:1
unfoldable pub fars_a : List ℕ
fars_a = 2 ∷ 4 ∷ 6 ∷ []

unfoldable pub costs_a : List ℕ
costs_a = 1 ∷ 1 ∷ 1 ∷ []

unfoldable pub stored_a : List ℕ
stored_a = 0x06 ∷ 0x0D ∷ 0x00 ∷ 0x00 ∷ 0x0C ∷ 0x00 ∷ 0x00 ∷ 0x1C ∷ 0x00 ∷ 0x00 ∷ 0x20 ∷ []

-- it is written as document 01's bytes, and these are read as it
pub example_a_lem : (link_bytes old_links 3 fars_a costs_a ≡ stored_a) × (judged old_links stored_a 0 3 ≡ Ok (record { n = 3; count = 3; used = 11 }))
    × (fars_of old_links 3 3 stored_a ≡ fars_a) × (costs_of old_links 3 3 stored_a ≡ costs_a)
unfolding fars_a costs_a stored_a link_bytes link_fields rows_to field_bytes field_bits packed filled bytes_of bits bits_of value_of part listed images_of count_of
    far_at cost_at fill_of first bad_row missing ones ones_in
example_a_lem = (refl, refl, refl, refl)

-- n 2 and 65 get 1, in two bytes; one byte gets 9; a position within a byte gets 9
pub head_examples : (judged old_links (4 ∷ 0 ∷ []) 0 0 ≡ Err (refusal 1 2 0 0 0))
    × (judged old_links (130 ∷ 0 ∷ []) 0 0 ≡ Err (refusal 1 65 0 0 0))
    × (judged old_links (130 ∷ []) 0 0 ≡ Err (refusal 9 0 0 0 0))
    × (judged old_links (130 ∷ 0 ∷ []) 3 0 ≡ Err (refusal 9 0 0 0 0))
unfolding bits bits_of value_of part images_of count_of
head_examples = (refl, refl, refl, refl)

-- ## The new form

unfoldable pub new_stored_a : List ℕ
new_stored_a = 0xFE ∷ 0x0C ∷ 0x1A ∷ 0x00 ∷ 0x00 ∷ 0x03 ∷ 0x00 ∷ 0x00 ∷ 0x00 ∷ 0xE0 ∷ 0x00 ∷ 0x00 ∷ 0x20 ∷ []

-- example A with the mark in front and 24 bits for a cost, told by its first seven bits
pub new_example_a : (link_bytes new_links 3 fars_a costs_a ≡ new_stored_a) × (judged_either new_stored_a 0 3 ≡ Ok (record { n = 3; count = 3; used = 13 }))
    × (fars_of new_links 3 3 new_stored_a ≡ fars_a) × (costs_of new_links 3 3 new_stored_a ≡ costs_a)
unfolding fars_a costs_a new_stored_a link_bytes link_fields rows_to field_bytes field_bits packed filled bytes_of bits bits_of value_of part listed images_of count_of
    far_at cost_at fill_of first bad_row missing ones ones_in edition_of
new_example_a = (refl, refl, refl, refl)

-- the mark needs two bytes more, and a second 127 is an n; without the mark two bytes are enough
pub new_heads : (judged_either (255 ∷ []) 0 0 ≡ Err (refusal 9 0 0 0 0))
    × (judged_either (255 ∷ 255 ∷ []) 0 0 ≡ Err (refusal 9 0 0 0 0))
    × (judged_either (255 ∷ 255 ∷ 255 ∷ []) 0 0 ≡ Err (refusal 1 127 0 0 0))
    × (judged_either (130 ∷ 0 ∷ []) 0 0 ≡ Err (refusal 1 65 0 0 0))
unfolding bits bits_of value_of part images_of count_of edition_of
new_heads = (refl, refl, refl, refl)
