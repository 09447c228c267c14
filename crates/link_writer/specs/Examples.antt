-- Which refusal comes first where several would, computed. Assumes nothing.
use Rattle.std.specs.Prelude.{List, [], ◌∷◌, refl, ◌≡◌, ℕ, Ok, Err}
use Rattle.std.specs.Int.Count.{ones, ones_in}
use Rattle.ground.specs.First.{first}
use Rattle.ground.specs.Refusals.{refusal}
use Rattle.bad_rows.specs.BadRows.{bad_row, missing}
use Rattle.link_forms.specs.Form.{new_links, old_links}
use Rattle.link_writer.specs.Writing.{write_outcome}

-- example A's rows with the cost x in the second, into so many bytes
abbrev three : ℕ → List ℕ
three x = 1 ∷ x ∷ 1 ∷ []

abbrev sides : List ℕ
sides = 2 ∷ 4 ∷ 6 ∷ []

-- in the old form 2,000,000 is no 17, and 2,000,001 is one, before 3; above the new limit it is 12
pub old_refusals : ((write_outcome old_links 3 3 sides (three 2000000) []).answer ≡ Err (refusal 3 0 0 0 0))
    × ((write_outcome old_links 3 3 sides (three 2000001) []).answer ≡ Err (refusal 17 2 0 0 0))
    × ((write_outcome old_links 3 3 sides (three 16000001) []).answer ≡ Err (refusal 12 2 0 0 0))
unfolding first bad_row missing ones ones_in
old_refusals = (refl, refl, refl)

-- the new form takes 16,000,000, in thirteen bytes
pub new_refusals : ((write_outcome new_links 3 3 sides (three 16000000) []).answer ≡ Err (refusal 3 0 0 0 0))
    × ((write_outcome new_links 3 3 sides (three 16000000) (0 ∷ 0 ∷ 0 ∷ 0 ∷ 0 ∷ 0 ∷ 0 ∷ 0 ∷ 0 ∷ 0 ∷ 0 ∷ 0 ∷ 0 ∷ [])).answer ≡ Ok 13)
unfolding first bad_row missing ones ones_in
new_refusals = (refl, refl)
