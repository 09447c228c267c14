-- What the links shared by a team are worth, as document 02 says it: what an accepted call left in the two slices, f' and v' after f and v.
-- Assumes nothing.
use mathlib.Core.List.{List, Memᴰ}
use Rattle.std.specs.Prelude.{◌↔◌, ◌≡◌, ℕ, ◌≤◌}
use Rattle.ground.specs.Filters.{Each}
use Rattle.theory.specs.Demands.{OneTree}
use Rattle.theory.specs.LinkTables.{Row, cost_of, fars}
use Rattle.theory.specs.Readings.{Exact}
use Rattle.theory.specs.Tables.{cost}
use Rattle.tree.specs.Exact.{exact_rows, exact_sides}

-- c is the smallest of the doubled costs that the tables' trees give S: some tree gives it, and none gives less
pub record SmallestCost (L n : ℕ) (ts : List (List ℕ)) (S c : ℕ) : Type 0 where
  pub low : Each ts (λ t. c ≤ cost_of (exact_rows L n t) S)
  pub table : List ℕ
  pub is_one : Memᴰ table ts
  pub at : c ≡ cost_of (exact_rows L n table) S

-- T are the links that the tables of a team share
pub record SharedByTeam (L n : ℕ) (ts : List (List ℕ)) (T : List Row) : Type 0 where
  -- the tree of each table is its exact reading: path costs there are twice the entries
  pub trees : Each ts (λ t. Exact L (cost t n) n (exact_rows L n t))
  -- a far side is in T exactly when it is in every tree
  pub members : (S : ℕ) → Memᴰ S (fars T) ↔ Each ts (λ t. Memᴰ S (exact_sides L n t))
  -- each row with the smallest of its doubled costs; an absent link costs 0 in T, as it does in some tree
  pub rows : Each T (λ r. SmallestCost L n ts r.0 r.1)
  pub costs : (S : ℕ) → SmallestCost L n ts S (cost_of T S)
  -- T is a link table with n to 2 n - 3 rows, and they form one tree
  pub tree : OneTree L n T
