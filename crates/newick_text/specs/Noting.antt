-- What is noted of vertices on one way through their text. m are the images named before them, as a far side; images above 64 are left out of it.
-- Where no image is named twice, and none is above 64, this is what the tree says. Assumes nothing.
use Rattle.std.specs.Prelude.{cond, ◌||◌, List, [], ◌++◌, ◌∷◌, min, suc, zero, ℕ, ◌+◌, ◌-◌, ltb, length}
use Rattle.ground.specs.Sums.{when}
use Rattle.theory.specs.FarSides.{holds}
use Rattle.theory.specs.LinkTables.{Row}
use Rattle.text.specs.Decimal.{decimal}
use Rattle.newick_text.specs.Trees.{Head, Siblings, bracket, closed, image, listed, named, none}
use Rattle.newick_text.specs.Tables.{image_side}

-- image i as a far side
abbrev pub image_bit : ℕ → ℕ
image_bit i = cond (ltb 64 i) 0 (image_side i)

-- one image more is named
abbrev pub mark : ℕ → ℕ → ℕ
mark m i = cond (ltb 64 i || holds m (i - 1)) m (image_side i + m)

-- the images named once f was read
unfoldable pub marked : ℕ → Siblings → ℕ
marked m none = m
marked m (image i c r) = marked (mark m i) r
marked m (bracket g c r) = marked (marked m g) r

-- the far side of a vertex: an image, or what is named in a bracket and was not before
abbrev pub noted_far : ℕ → Head → ℕ
noted_far m (named i) = image_bit i
noted_far m (closed g) = marked m g - m

-- the rows of vertices, in the order in which their costs end
unfoldable pub noted : ℕ → Siblings → List Row
noted m none = []
noted m (image i c r) = (image_bit i, c) ∷ noted (mark m i) r
noted m (bracket g c r) = noted m g ++ ((marked m g - m, c) ∷ noted (marked m g) r)

-- the far side of the last vertex; b where there is none
unfoldable pub last_far : ℕ → ℕ → Siblings → ℕ
last_far m b none = b
last_far m b (image i c r) = last_far (mark m i) (image_bit i) r
last_far m b (bracket g c r) = last_far (marked m g) (marked m g - m) r

-- the lower of two places, 0 being none
abbrev pub lower_place : ℕ → ℕ → ℕ
lower_place zero q = q
lower_place (suc p) zero = suc p
lower_place (suc p) (suc q) = min (suc p) (suc q)

-- the lowest place of the first byte of a sibling whose far side is below the one before, which is b at the beginning; f begins at place p
unfoldable pub fallen : ℕ → ℕ → ℕ → Siblings → ℕ
fallen m p b none = 0
fallen m p b (image i c r) =
    lower_place (when (ltb (image_bit i) b) p) (fallen (mark m i) (p + (length (decimal i) + (length (decimal c) + 2))) (image_bit i) r)
fallen m p b (bracket g c r) =
    lower_place (fallen m (suc p) 0 g)
    (lower_place (when (ltb (marked m g - m) b) p) (fallen (marked m g) (p + (length (listed 41 g) + (length (decimal c) + 3))) (marked m g - m) r))
