-- What two calls for teams say of each other, over what they answered and left: the order of the tables plays no part, one table gives its
-- exact reading, and one table more only takes rows away or lowers costs. Assumes nothing.
use mathlib.Core.List.{List, Memᴰ}
use Rattle.std.specs.Prelude.{ℕ, ◌≤◌}
use Rattle.ground.specs.Filters.{Each}
use Rattle.theory.specs.LinkTables.{Row, cost_of, fars}

-- the same tables, in any order and each as often as one likes
pub record SameTables (ts us : List (List ℕ)) : Type 0 where
  pub to : Each ts (λ t. Memᴰ t us)
  pub back : Each us (λ u. Memᴰ u ts)

-- U, of s rows, has only far sides that T, of r rows, has too, and gives none a higher cost
pub record FewerLinks (r : ℕ) (T : List Row) (s : ℕ) (U : List Row) : Type 0 where
  pub sides : Each (fars U) (λ S. Memᴰ S (fars T))
  pub rows : s ≤ r
  pub costs : (S : ℕ) → cost_of U S ≤ cost_of T S
