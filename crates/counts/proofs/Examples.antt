-- Small differences, computed: far sides of document 01's examples E, G and H, and of E with images 2 and 3 exchanged. Assumes nothing.
use Rattle.std.specs.Prelude.{refl, ◌≡◌}
use Rattle.std.specs.Int.Count.{ones}
use Rattle.counts.specs.Differ.{differ}
pub use Rattle.counts.specs.Examples.{sides_e, exchanged_e, sides_g, sides_h, numbers}

-- 1 over 1 and 2 over 2, which is not reduced, where nothing is common; 0 over 1 without inner ones; 0 over all of both of the same
pub small_differences : (differ 4 sides_e sides_g ≡ numbers 1 0 0 1 1)
    × (differ 4 sides_g sides_e ≡ numbers 0 1 0 1 1)
    × (differ 4 sides_e exchanged_e ≡ numbers 1 1 0 2 2)
    × (differ 4 sides_g sides_g ≡ numbers 0 0 0 0 1)
    × (differ 7 sides_h sides_h ≡ numbers 4 4 4 0 8)
unfolding ones
small_differences = (refl, refl, refl, refl, refl)
