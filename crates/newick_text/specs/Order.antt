-- The order of siblings: ascending far sides, and the first place where they do not ascend. Assumes nothing.
use Rattle.std.specs.Prelude.{cond, suc, zero, ℕ, ◌+◌, ◌≤◌, ltb, length}
use Rattle.text.specs.Decimal.{decimal}
use Rattle.newick_text.specs.Trees.{Siblings, bracket, image, listed, none}
use Rattle.newick_text.specs.Tables.{image_side, side}

-- siblings in ascending far side, from b on, in every bracket
abbrev pub Rising : ℕ → Siblings → Type 0
Rising b none = Unit {0}
Rising b (image i c r) = (b ≤ image_side i) × Rising (suc (image_side i)) r
Rising b (bracket g c r) = (b ≤ side g) × Rising 0 g × Rising (suc (side g)) r

-- image 1 apart
abbrev pub RisingTree : Siblings → Type 0
RisingTree none = Unit {0}
RisingTree (image i c r) = Rising 0 r
RisingTree (bracket g c r) = Unit {0}

-- the first of two places that is not 0
abbrev pub first_of : ℕ → ℕ → ℕ
first_of zero q = q
first_of (suc p) q = suc p

-- the place, from p on, of the first byte of the first sibling whose far side is below the one before, which is b at the beginning; 0 where there is none.
-- A bracket begins before what is in it
unfoldable pub fall_from : ℕ → ℕ → Siblings → ℕ
fall_from p b none = 0
fall_from p b (image i c r) = cond (ltb (image_side i) b) p (fall_from (p + (length (decimal i) + (length (decimal c) + 2))) (image_side i) r)
fall_from p b (bracket g c r) =
    cond (ltb (side g) b) p (first_of (fall_from (suc p) 0 g) (fall_from (p + (length (listed 41 g) + (length (decimal c) + 3))) (side g) r))

-- image 1 apart, which stands at place 2
abbrev pub fall : Siblings → ℕ
fall none = 0
fall (image i c r) = fall_from (2 + (length (decimal i) + (length (decimal c) + 2))) 0 r
fall (bracket g c r) = 0
