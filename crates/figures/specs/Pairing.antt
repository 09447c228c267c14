-- The last tree, and its count with the next, as the code counts them. Assumes nothing.
use Rattle.std.specs.Prelude.{cond, List, [], ◌∷◌, ℕ, eqb}
use Rattle.theory.specs.Comparison.{differing, inners}
use Rattle.theory.specs.LinkTables.{Row}

-- the last tree, no rows where there is none
abbrev pub last_from : List Row → List (List Row) → List Row
last_from T [] = T
last_from T (U ∷ Ts) = last_from U Ts

abbrev pub last_tree : List (List Row) → List Row
last_tree [] = []
last_tree (T ∷ Ts) = last_from T Ts

-- the count of a tree and the one before it, of which so many there are: 0 where there is none
unfoldable pub pair_count : ℕ → ℕ → List ℕ → List ℕ → ℕ
pair_count n k l r = cond (eqb k 0) 0 (differing (inners n l) (inners n r))
