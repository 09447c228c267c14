-- Which refusal comes first where several would, computed. Assumes nothing.
use Rattle.std.specs.Prelude.{[], ◌∷◌, refl, ◌≡◌, Ok, Err}
use Rattle.ground.specs.Lowest.{check_all}
use Rattle.ground.specs.Refusals.{refusal}
use Rattle.cost_forms.specs.Entries.{row_start}
use Rattle.cost_forms.specs.Form.{new_costs, old_costs}
use Rattle.cost_writer.specs.Writing.{write_outcome}
pub use Rattle.cost_writer.specs.Examples.{three}

-- in the old form 17 comes before 3 and after 6; above the new limit it is 4
pub old_refusals : ((write_outcome old_costs 3 (three 1 1) []).answer ≡ Err (refusal 17 1 3 0 0))
    × ((write_outcome old_costs 3 (three 1 2) []).answer ≡ Err (refusal 6 2 3 0 0))
    × ((write_outcome old_costs 3 (three 8000001 8000001) []).answer ≡ Err (refusal 4 2 3 0 0))
unfolding check_all row_start
old_refusals = (refl, refl, refl)

-- the new form takes the same table, in eleven bytes
pub new_refusals : ((write_outcome new_costs 3 (three 1 1) (0 ∷ 0 ∷ 0 ∷ 0 ∷ 0 ∷ 0 ∷ 0 ∷ 0 ∷ 0 ∷ 0 ∷ [])).answer ≡ Err (refusal 3 0 0 0 0))
    × ((write_outcome new_costs 3 (three 8000000 8000000) (0 ∷ 0 ∷ 0 ∷ 0 ∷ 0 ∷ 0 ∷ 0 ∷ 0 ∷ 0 ∷ 0 ∷ 0 ∷ [])).answer ≡ Ok 11)
unfolding check_all row_start
new_refusals = (refl, refl)
