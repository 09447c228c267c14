-- How the code finds the groups: the images at most h away from one image; and the heights of the groups whose last image is k.
-- Document 02 does not speak of it; its laws (Laws/Balls, Laws/Listed) say that it is the same. Assumes nothing.
use Rattle.std.specs.Prelude.{Bool, ◌&&◌, ◌||◌, List, map, suc, ℕ, eqb, leb, ltb}
use Rattle.ground.specs.Bits.{num}
use Rattle.ground.specs.Counts.{one_if}
use Rattle.ground.specs.Filters.{filter}
use Rattle.ground.specs.Ranges.{from, gather}
use Rattle.leveling.specs.Below.{every, some}

-- the images below n whose entry with image i is at most h
unfoldable pub ball : (ℕ → ℕ → ℕ) → ℕ → ℕ → ℕ → ℕ
ball d n i h = num n (λ j. one_if (leb (d i j) h))

-- h is an entry of image k with an image before it, and is below the entries of k with all images after it
unfoldable pub is_level : (ℕ → ℕ → ℕ) → ℕ → ℕ → ℕ → Bool
is_level d n k h = some k (λ j. eqb (d k j) h) && every n (λ j. leb j k || ltb h (d k j))

-- the heights of the groups whose last image is k, ascending, all below m
unfoldable pub levels_at : (ℕ → ℕ → ℕ) → ℕ → ℕ → ℕ → List ℕ
levels_at d n k m = filter (is_level d n k) (from 0 m)

-- the groups in the order in which the code finds them, and their heights
abbrev pub found_at : (ℕ → ℕ → ℕ) → ℕ → ℕ → ℕ → List ℕ
found_at d n m k = map (ball d n k) (levels_at d n k m)

unfoldable pub found : ℕ → (ℕ → ℕ → ℕ) → ℕ → List ℕ
found L d n = gather (from 0 n) (found_at d n (suc L))

unfoldable pub found_heights : ℕ → (ℕ → ℕ → ℕ) → ℕ → List ℕ
found_heights L d n = gather (from 0 n) (λ k. levels_at d n k (suc L))
