-- Example A from one form into the other, and a table that the old form cannot hold, computed. Assumes nothing.
use Rattle.std.specs.Prelude.{[], ◌++◌, ◌∷◌, refl, ◌≡◌, Err}
use Rattle.std.specs.Int.Count.{ones, ones_in}
use Rattle.ground.specs.First.{first}
use Rattle.ground.specs.Lowest.{check_all}
use Rattle.ground.specs.Outcomes.{wrote_into}
use Rattle.ground.specs.Refusals.{refusal}
use Rattle.bits.specs.Bits.{bits, bits_of, part, value_of}
use Rattle.bits.specs.Editions.{edition_of}
use Rattle.bits.specs.Forms.{bytes_of, field_bits, field_bytes, field_value, filled, packed}
use Rattle.bits.specs.Listed.{listed}
use Rattle.bits.specs.declared.Edition.TheVariants.{New, Old}
use Rattle.bad_rows.specs.BadRows.{bad_row, missing}
use Rattle.cost_forms.specs.Entries.{entries_to, entry_cost, row_entries, row_start, table_of}
use Rattle.cost_forms.specs.Form.{cost_bytes, cost_fields, new_costs}
use Rattle.cost_forms.specs.Said.{entry_of}
use Rattle.link_forms.specs.Form.{link_bytes, link_fields, new_links, rows_to}
use Rattle.link_forms.specs.Said.{cost_at, count_of, far_at}
use Rattle.stored_costs.proofs.Examples as costs
use Rattle.cost_forms.specs.Said as cost-said
use Rattle.stored_links.specs.Examples as links
use Rattle.link_forms.specs.Said as said
use Rattle.conversion.specs.Costs.{costs_converted}
use Rattle.conversion.specs.Links.{links_converted}
pub use Rattle.conversion.specs.Examples.{lent}

-- A there and back, whatever follows it; 8,000,000, which the old form cannot hold, before 3; and 3, where nothing is altered
pub costs_a_lem : (costs_converted New (costs.stored_a ++ 9 ∷ []) lent ≡ wrote_into 11 costs.new_stored_a lent)
    × (costs_converted Old costs.new_stored_a lent ≡ wrote_into 9 costs.stored_a lent)
    × ((costs_converted Old (cost_bytes new_costs 3 (λ i j. 8000000)) []).answer ≡ Err (refusal 17 1 2 0 0))
    × (costs_converted New costs.stored_a costs.stored_a ≡ record { answer = Err (refusal 3 0 0 0 0); places = costs.stored_a })
unfolding costs.stored_a costs.new_stored_a cost_bytes cost_fields field_bytes field_bits packed filled bytes_of bits bits_of value_of part field_value listed entries_to
    row_entries row_start entry_cost table_of cost-said.images_of entry_of cost-said.fill_of check_all edition_of
costs_a_lem = (refl, refl, refl, refl)

pub links_a : (links_converted New (links.stored_a ++ 9 ∷ []) lent ≡ wrote_into 13 links.new_stored_a lent)
    × (links_converted Old links.new_stored_a lent ≡ wrote_into 11 links.stored_a lent)
    × ((links_converted Old (link_bytes new_links 3 (2 ∷ 4 ∷ 6 ∷ []) (1 ∷ 1 ∷ 2000001 ∷ [])) []).answer ≡ Err (refusal 17 3 0 0 0))
    × (links_converted New links.stored_a links.stored_a ≡ record { answer = Err (refusal 3 0 0 0 0); places = links.stored_a })
unfolding links.stored_a links.new_stored_a link_bytes link_fields rows_to field_bytes field_bits packed filled bytes_of bits bits_of value_of part listed said.images_of
    count_of far_at cost_at said.fill_of first bad_row missing ones ones_in edition_of
links_a = (refl, refl, refl, refl)
