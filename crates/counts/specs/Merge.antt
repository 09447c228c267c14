-- The merge of two ascending lists: which numbers they have in common, from the fronts on. Assumes nothing.
use Rattle.std.specs.Prelude.{◌&&◌, List, ℕ, eqb, drop, length}
use Rattle.ground.specs.Counts.{one_if}
use Rattle.theory.specs.Comparison.{common, inners}
use Rattle.theory.specs.FarSides.{inner}

-- 1 where x and y are the same inner far side, else 0
unfoldable pub one_common : ℕ → ℕ → ℕ → ℕ
one_common n x y = one_if (eqb x y && inner n x)

-- how many inner far sides are in both lists, in l from place i and in r from place j on
unfoldable pub shared : ℕ → List ℕ → List ℕ → ℕ → ℕ → ℕ
shared n l r i j = length (inners n (common (drop i l) (drop j r)))
