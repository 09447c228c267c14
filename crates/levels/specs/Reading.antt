-- What the reading of levels is worth, as document 02 says it: the groups l of a table with levels, and their heights v. Assumes nothing.
use Rattle.std.specs.Prelude.{true, ◌↔◌, ◌≡◌, ℕ, ◌-◌, ◌<◌, ◌^◌, ◌≤◌, length}
use mathlib.Core.List.{List, Memᴰ, map}
use Rattle.ground.specs.Ascending.{Between}
use Rattle.ground.specs.Filters.{Each}
use Rattle.theory.specs.FarSides.{Nested, holds}
use Rattle.theory.specs.LinkTables.{Row}
use Rattle.theory.specs.Readings.{Exact}
use Rattle.levels.specs.Groups.{Group, Smallest, height}
use Rattle.levels.specs.Links.{LevelTree}

pub record LevelReading (L : ℕ) (d : ℕ → ℕ → ℕ) (n : ℕ) (l v : List ℕ) : Type 0 where
  -- a set is listed exactly when it is a group; the list ascends by member sum
  pub members : (S : ℕ) → Memᴰ S l ↔ Group d n S
  pub ascending : Between 0 l (2 ^ n)
  -- behind each stands its height, the largest entry inside it
  pub heights : v ≡ map (height d n) l
  -- 1 to n - 1 groups, all images together being one, and any two nested or disjoint
  pub whole : Memᴰ (2 ^ n - 1) l
  pub most : length l ≤ n - 1
  pub nested : Each l (λ S. Each l (λ R. Nested n S R))
  -- the entry of two different images is the height of the smallest group that holds both
  pub smallest : (i j : ℕ) → i < n → j < n → (i ≡ j → ⊥) → (S : ℕ) × Smallest d n i j S
  pub entry : (i j : ℕ) → i < n → j < n → (i ≡ j → ⊥) → (S : ℕ) → Smallest d n i j S → height d n S ≡ d i j
  -- which is the first of the list that holds both
  pub first : (i j S R : ℕ) → Smallest d n i j S → Group d n R → holds R i ≡ true → holds R j ≡ true → S ≤ R
  -- the exact reading accepts the table, and the sides of its tree's links are the groups and the images (Links.antt)
  pub tree : (T : List Row) × Exact L d n T
  pub links : (T : List Row) → Exact L d n T → LevelTree d n T
