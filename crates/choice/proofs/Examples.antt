-- The choice between settled examples of document 01 in their stored form, computed. Assumes nothing.
use Rattle.std.specs.Prelude.{[], ◌∷◌, ◌++◌, refl, ◌≡◌}
use Rattle.std.specs.Int.Count.{ones, ones_in}
use Rattle.ground.specs.First.{first}
use Rattle.ground.specs.Refusals.{refusal, refused_in}
use Rattle.bits.specs.Bits.{bits, bits_of, part, value_of}
use Rattle.bits.specs.Editions.{edition_of}
use Rattle.bits.specs.Forms.{bytes_of, filled, field_bits, field_bytes, packed}
use Rattle.bits.specs.Listed.{listed}
use Rattle.bad_rows.specs.BadRows.{bad_row, missing}
use Rattle.stored_links.specs.Examples.{stored_a}
use Rattle.link_forms.specs.Form.{link_bytes, link_fields, old_links, rows_to}
use Rattle.link_forms.specs.Said.{cost_at, count_of, far_at, fill_of, images_of}
use Rattle.choice.specs.Call.{choice_either, choice_of, part_of, takes}
unfoldable pub use Rattle.choice.specs.Examples.{stored_e, stored_g, exchanged_e, new_e, new_g}

-- E includes G, whichever stands first and whatever follows; of equals the first; neither of two different inner far sides; different n
pub chosen_examples : (choice_of old_links old_links stored_e stored_g ≡ takes 1 17)
    × (choice_of old_links old_links (stored_g ++ stored_a) stored_e ≡ takes 2 17)
    × (choice_of old_links old_links stored_g stored_g ≡ takes 1 14)
    × (choice_of old_links old_links stored_e exchanged_e ≡ refused_in 0 (refusal 14 0 0 0 0))
    × (choice_of old_links old_links stored_a stored_e ≡ refused_in 0 (refusal 15 0 0 0 0))
    × (choice_of old_links old_links stored_a (130 ∷ []) ≡ refused_in 2 (refusal 9 0 0 0 0))
    × (part_of (choice_of old_links old_links (stored_g ++ stored_a) stored_e) (stored_g ++ stored_a) stored_e ≡ stored_e)
unfolding stored_a stored_e stored_g exchanged_e link_bytes link_fields rows_to field_bytes field_bits packed filled bytes_of bits bits_of value_of part listed
    images_of count_of far_at cost_at fill_of first bad_row missing ones ones_in
chosen_examples = (refl, refl, refl, refl, refl, refl, refl)

-- the forms mixed: E includes G, whichever of them stands first and whichever has the new form; a first table FF FF ends before its row count
pub mixed_examples : (choice_either new_e stored_g ≡ takes 1 20)
    × (choice_either stored_g new_e ≡ takes 2 20)
    × (choice_either stored_e new_g ≡ takes 1 17)
    × (choice_either new_g stored_e ≡ takes 2 17)
    × (choice_either stored_e new_e ≡ takes 1 17)
    × (choice_either (255 ∷ 255 ∷ []) stored_e ≡ refused_in 1 (refusal 9 0 0 0 0))
    × (part_of (choice_either stored_g (new_e ++ stored_a)) stored_g (new_e ++ stored_a) ≡ new_e)
unfolding stored_a stored_e stored_g new_e new_g edition_of link_bytes link_fields rows_to field_bytes field_bits packed filled bytes_of bits bits_of value_of part listed
    images_of count_of far_at cost_at fill_of first bad_row missing ones ones_in
mixed_examples = (refl, refl, refl, refl, refl, refl, refl)
