-- The far end of small tables, computed. The first row of a table decides, so that no more of it stands here. Assumes nothing.
use Rattle.std.specs.Prelude.{[], ◌∷◌, refl, ◌≡◌}
use Rattle.theory.specs.Tables.{cost}
use Rattle.far_end.specs.FarEnd.{far_end, farthest}

-- example E: images 3 and 4 cost the same, and it is 3
pub example_e_lem : far_end (cost (0 ∷ 2 ∷ 4 ∷ 4 ∷ []) 4) 4 ≡ 2
unfolding farthest
example_e_lem = refl

-- example H: image 6 costs 59
pub example_h_lem : far_end (cost (0 ∷ 28 ∷ 5 ∷ 48 ∷ 54 ∷ 59 ∷ 41 ∷ []) 7) 7 ≡ 5
unfolding farthest
example_h_lem = refl

-- the last of the images, and the second where all cost nothing
pub image_n : far_end (cost (0 ∷ 3 ∷ 3 ∷ 4 ∷ []) 4) 4 ≡ 3
unfolding farthest
image_n = refl

pub zeros : far_end (cost (0 ∷ 0 ∷ 0 ∷ 0 ∷ []) 4) 4 ≡ 1
unfolding farthest
zeros = refl
