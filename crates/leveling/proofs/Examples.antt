-- Examples of refusal 21, computed: the settled tables E and G have levels and D has none; a table whose threes with image 1 all pass has
-- none; and of two threes that fail the first is that of the dictionary, though its last image is a later one. Assumes nothing.
use Rattle.std.specs.Prelude.{refl, ◌≡◌, Ok, Err}
use Rattle.ground.specs.Refusals.{refusal}
use Rattle.theory.specs.Tables.{cost}
use Rattle.leveling.specs.Check.{levels_check}
pub use Rattle.leveling.specs.Examples.{E, G, D, around_one, two_fail}

pub level_checks : (levels_check (cost E 4) 4 ≡ Ok tt)
    × (levels_check (cost G 4) 4 ≡ Ok tt)
    × (levels_check (cost D 3) 3 ≡ Err (refusal 21 1 2 3 0))
    × (levels_check (cost around_one 4) 4 ≡ Err (refusal 21 2 3 4 0))
    × (levels_check (cost two_fail 5) 5 ≡ Err (refusal 21 1 2 5 0))
level_checks = (refl, refl, refl, refl, refl)
