-- The groups of a table and their heights, in document 02's words. A set of images is named by its member sum: bit i is 1 for each image i
-- in it, image 0 allowed. Images are counted from 0.
use Rattle.std.specs.Prelude.{true, List, map, ◌≡◌, max, suc, zero, ℕ, ◌<◌, ◌^◌, ◌≤◌}
use Rattle.std.specs.Int.Count.{ones}
use Rattle.ground.specs.Filters.{filter}
use Rattle.ground.specs.Ranges.{from}
use Rattle.ground.specs.Sums.{when}
use Rattle.theory.specs.FarSides.{Within, holds}
use Rattle.levels.specs.GroupTest.{is_group}

-- every entry inside S is at most h
abbrev pub AtMost : (ℕ → ℕ → ℕ) → ℕ → ℕ → ℕ → Type 0
AtMost d n h S = (i j : ℕ) → i < n → j < n → holds S i ≡ true → holds S j ≡ true → d i j ≤ h

-- S is a largest such set: no other one contains it
pub record Largest (d : ℕ → ℕ → ℕ) (n h S : ℕ) : Type 0 where
  pub fits : S < 2 ^ n
  pub under : AtMost d n h S
  pub largest : (R : ℕ) → R < 2 ^ n → Within n S R → AtMost d n h R → R ≡ S

-- two or more images, a largest set in which every entry is at most some entry of the table
pub record Group (d : ℕ → ℕ → ℕ) (n S : ℕ) : Type 0 where
  pub two : 2 ≤ ones S
  pub row : ℕ
  pub column : ℕ
  pub entry : (row < n) × (column < n)
  pub is : Largest d n (d row column) S

-- S is the smallest group that holds both i and j
pub record Smallest (d : ℕ → ℕ → ℕ) (n i j S : ℕ) : Type 0 where
  pub group : Group d n S
  pub both : (holds S i ≡ true) × (holds S j ≡ true)
  pub least : (R : ℕ) → Group d n R → holds R i ≡ true → holds R j ≡ true → Within n S R

-- all groups, ascending by member sum: of all sets those that pass the test, which is the definition (`groups-mem`)
unfoldable pub groups : (ℕ → ℕ → ℕ) → ℕ → List ℕ
groups d n = filter (is_group d n) (from 0 (2 ^ n))

-- the largest value of f at the images of S below n, 0 where there is none
abbrev pub most : ℕ → ℕ → (ℕ → ℕ) → ℕ
most S zero f = 0
most S (suc n) f = max (when (holds S n) (f n)) (most S n f)

-- the height: the largest entry inside S
unfoldable pub height : (ℕ → ℕ → ℕ) → ℕ → ℕ → ℕ
height d n S = most S n (λ i. most S n (λ j. d i j))

-- the heights of the groups
abbrev pub heights : (ℕ → ℕ → ℕ) → ℕ → List ℕ
heights d n = map (height d n) (groups d n)
