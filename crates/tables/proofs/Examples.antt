-- Which fault of a cost table is named where it has two, computed. Assumes nothing.
use Rattle.std.specs.Prelude.{List, [], ◌∷◌, refl, ◌≡◌, ℕ, Ok, Err}
use Rattle.ground.specs.Lowest.{check_all}
use Rattle.ground.specs.Refusals.{refusal, Check}
use Rattle.theory.specs.Tables.{cost, limit}
use Rattle.tables.specs.Checks.{costs_check}
pub use Rattle.tables.specs.Examples.{four, three}

-- an entry above the limit: below the diagonal, though images 1 and 2 cost nothing; and on it
pub entries-first : (three (0 ∷ 0 ∷ 5 ∷ 0 ∷ 0 ∷ 5 ∷ 8000001 ∷ 5 ∷ 0 ∷ []) ≡ Err (refusal 4 3 1 0 0))
    × (three (0 ∷ 5 ∷ 5 ∷ 5 ∷ 8000001 ∷ 5 ∷ 5 ∷ 5 ∷ 0 ∷ []) ≡ Err (refusal 4 2 2 0 0))
unfolding check_all
entries-first = (refl, refl)

-- image 3 costs something to itself, images 1 and 2 differ by the way, and images 2 and 3 cost nothing; then without the first of these
pub diagonal_before_pairs : (three (0 ∷ 5 ∷ 5 ∷ 6 ∷ 0 ∷ 0 ∷ 5 ∷ 0 ∷ 1 ∷ []) ≡ Err (refusal 5 3 0 0 0))
    × (three (0 ∷ 5 ∷ 5 ∷ 6 ∷ 0 ∷ 0 ∷ 5 ∷ 0 ∷ 0 ∷ []) ≡ Err (refusal 6 1 2 0 0))
unfolding check_all
diagonal_before_pairs = (refl, refl)

-- images 1 and 2 cost nothing, and images 3 and 4 differ by the way: 6 comes before 20; a zero one way alone is 6 too
pub six_before_twenty : (four (0 ∷ 0 ∷ 5 ∷ 5 ∷ 0 ∷ 0 ∷ 5 ∷ 5 ∷ 5 ∷ 5 ∷ 0 ∷ 5 ∷ 5 ∷ 5 ∷ 6 ∷ 0 ∷ []) ≡ Err (refusal 6 3 4 0 0))
    × (three (0 ∷ 5 ∷ 0 ∷ 5 ∷ 0 ∷ 5 ∷ 5 ∷ 5 ∷ 0 ∷ []) ≡ Err (refusal 6 1 3 0 0))
unfolding check_all
six_before_twenty = (refl, refl)

-- images 1 and 4 cost nothing, nor do images 2 and 3, whose column is the lower one: the lower row is named. An image costs nothing to itself, and
-- an own link of cost 0, image 1's in example D, is no zero between two images.
pub lowest_zero : (four (0 ∷ 5 ∷ 5 ∷ 0 ∷ 5 ∷ 0 ∷ 0 ∷ 5 ∷ 5 ∷ 0 ∷ 0 ∷ 5 ∷ 0 ∷ 5 ∷ 5 ∷ 0 ∷ []) ≡ Err (refusal 20 1 4 0 0))
    × (three (0 ∷ 1 ∷ 1 ∷ 1 ∷ 0 ∷ 2 ∷ 1 ∷ 2 ∷ 0 ∷ []) ≡ Ok tt)
unfolding check_all
lowest_zero = (refl, refl)
