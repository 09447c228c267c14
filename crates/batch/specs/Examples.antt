-- Small batches, computed. Assumes nothing.
use Rattle.std.specs.Prelude.{[], ◌++◌, ◌∷◌, refl, ◌≡◌, Ok}
use Rattle.std.specs.Int.Count.{ones, ones_in}
use Rattle.ground.specs.First.{first}
use Rattle.ground.specs.Refusals.{refusal, refused_in}
use Rattle.bits.specs.Bits.{bits_of, part, value_of}
use Rattle.bits.specs.Forms.{bytes_of, filled, field_bits, field_bytes, packed}
use Rattle.bad_rows.specs.BadRows.{bad_row, missing}
use Rattle.stored_links.specs.Examples.{costs_a, fars_a, new_stored_a, stored_a}
use Rattle.link_forms.specs.Form.{link_bytes, link_fields, new_links, old_links, rows_to}
use Rattle.batch.specs.Batch.{batch_answer, batch_from}
use Rattle.joined_tables.specs.Bytes.{batch_bytes}
use Rattle.joined_tables.specs.Tables.{tables}

-- an empty batch writes 0 bytes; with a row left over it gets 2, and so do two lists that differ in length, with the number 0
pub empty_batches : (batch_answer old_links [] [] [] [] 0 ≡ Ok 0)
    × (batch_answer old_links [] [] (2 ∷ []) [] 0 ≡ refused_in 0 (refusal 2 0 0 0 0))
    × (batch_answer old_links [] [] [] (1 ∷ []) 0 ≡ refused_in 0 (refusal 2 0 0 0 0))
    × (batch_answer old_links (3 ∷ []) [] [] [] 0 ≡ refused_in 0 (refusal 2 0 0 0 0))
unfolding tables batch_from
empty_batches = (refl, refl, refl, refl)

-- example A twice: it needs 22 bytes, which are document 01's 11 bytes twice
pub batch_a : (batch_answer old_links (3 ∷ 3 ∷ []) (3 ∷ 3 ∷ []) (fars_a ++ fars_a) (costs_a ++ costs_a) 22 ≡ Ok 22)
    × (batch_bytes old_links (tables (3 ∷ 3 ∷ []) (3 ∷ 3 ∷ [])) (fars_a ++ fars_a) (costs_a ++ costs_a) ≡ stored_a ++ stored_a)
unfolding tables batch_from batch_bytes fars_a costs_a stored_a link_bytes link_fields rows_to field_bytes field_bits packed filled bytes_of bits_of value_of part
    first bad_row missing ones ones_in
batch_a = (refl, refl)

-- in 21 bytes the second table gets 3, before a row left over gets 2; a cost too few gets 2 at the second table; its n of 2 gets 1
pub batch_a_refused : (batch_answer old_links (3 ∷ 3 ∷ []) (3 ∷ 3 ∷ []) (fars_a ++ fars_a ++ fars_a) (costs_a ++ costs_a) 21 ≡ refused_in 2 (refusal 3 0 0 0 0))
    × (batch_answer old_links (3 ∷ 3 ∷ []) (3 ∷ 3 ∷ []) (fars_a ++ fars_a ++ fars_a) (costs_a ++ costs_a) 22 ≡ refused_in 2 (refusal 2 0 0 0 0))
    × (batch_answer old_links (3 ∷ 3 ∷ []) (3 ∷ 3 ∷ []) (fars_a ++ fars_a) (costs_a ++ 1 ∷ 1 ∷ []) 22 ≡ refused_in 2 (refusal 2 0 0 0 0))
    × (batch_answer old_links (3 ∷ 2 ∷ []) (3 ∷ 3 ∷ []) (fars_a ++ fars_a) (costs_a ++ costs_a) 22 ≡ refused_in 2 (refusal 1 2 0 0 0))
unfolding tables batch_from fars_a costs_a first bad_row missing ones ones_in
batch_a_refused = (refl, refl, refl, refl)

-- in the new form A twice needs 26 bytes; in the old one the second table gets 17 for its second row, before 3
pub batch_forms : (batch_answer new_links (3 ∷ 3 ∷ []) (3 ∷ 3 ∷ []) (fars_a ++ fars_a) (costs_a ++ costs_a) 26 ≡ Ok 26)
    × (batch_bytes new_links (tables (3 ∷ 3 ∷ []) (3 ∷ 3 ∷ [])) (fars_a ++ fars_a) (costs_a ++ costs_a) ≡ new_stored_a ++ new_stored_a)
    × (batch_answer old_links (3 ∷ 3 ∷ []) (3 ∷ 3 ∷ []) (fars_a ++ fars_a) (costs_a ++ 1 ∷ 2000001 ∷ 1 ∷ []) 11 ≡ refused_in 2 (refusal 17 2 0 0 0))
unfolding tables batch_from batch_bytes fars_a costs_a new_stored_a link_bytes link_fields rows_to field_bytes field_bits packed filled bytes_of bits_of value_of part
    first bad_row missing ones ones_in
batch_forms = (refl, refl, refl)
