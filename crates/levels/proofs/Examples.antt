-- Examples of groups and heights, computed: the settled tables E, whose groups are two pairs and all images, and G, whose only group is all
-- of them; a table of five images with one group inside another, both with image 1; and B, whose zeros the call refuses first.
-- Assumes nothing.
use Rattle.std.specs.Prelude.{[], ◌∷◌, refl, ◌≡◌, Err}
use Rattle.std.specs.Int.Count.{ones, ones_in}
use Rattle.ground.specs.Lowest.{check_all}
use Rattle.ground.specs.Refusals.{refusal}
use Rattle.theory.specs.Tables.{cost, limit}
use Rattle.leveling.specs.Examples.{E, G}
use Rattle.levels.specs.Groups.{groups, height, heights}
use Rattle.levels.specs.Outcome.{levels_checks}
pub use Rattle.levels.specs.Examples.{B, inside}

pub level_examples : (groups (cost E 4) 4 ≡ 3 ∷ 12 ∷ 15 ∷ []) × (heights (cost E 4) 4 ≡ 2 ∷ 2 ∷ 4 ∷ [])
    × (groups (cost G 4) 4 ≡ 15 ∷ []) × (heights (cost G 4) 4 ≡ 2 ∷ [])
    × (groups (cost inside 5) 5 ≡ 9 ∷ 11 ∷ 31 ∷ []) × (heights (cost inside 5) 5 ≡ 3 ∷ 5 ∷ 8 ∷ [])
unfolding groups height ones ones_in
level_examples = (refl, refl, refl, refl, refl, refl)

pub zeros_first : levels_checks limit 3 B 2 2 ≡ Err (refusal 20 1 2 0 0)
unfolding levels_checks check_all
zeros_first = refl
