-- The count of inner far sides, one by one. Assumes nothing.
use Rattle.std.specs.Prelude.{List, ℕ, length, take}
use Rattle.ground.specs.Counts.{one_if}
use Rattle.theory.specs.Comparison.{inners}
use Rattle.theory.specs.FarSides.{inner}

-- 1 for an inner far side, 0 for an own link
unfoldable pub one_inner : ℕ → ℕ → ℕ
one_inner n S = one_if (inner n S)

-- how many of the first i of l are inner
unfoldable pub tally : ℕ → List ℕ → ℕ → ℕ
tally n l i = length (inners n (take i l))
