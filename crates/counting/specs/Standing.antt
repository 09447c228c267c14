-- Where the code stands between two tables. Assumes nothing.
use Rattle.std.specs.Prelude.{List, ◌≡◌, ℕ, ◌≤◌, length, take}
use Rattle.ground.specs.Filters.{Each}
use Rattle.theory.specs.LinkTables.{fars}
use Rattle.theory.specs.Tables.{CostTable}
use Rattle.seen.specs.Columns.{Room, Stored}
use Rattle.figures.specs.Figures.{entries_at, figures_of, sides_at}
use Rattle.figures.specs.Pairing.{last_tree}
use Rattle.figures.specs.Checks.{most_sides}
use Rattle.figures.specs.Tables.{Table, images_in, trees}
use Rattle.counting.specs.declared.Standing.{Standing}

-- cost tables over one n, with no more than 1,024 far sides in their trees
pub record Sound (L : ℕ) (ts : List Table) : Type 0 where
  pub one : Each ts (λ t. t.images ≡ images_in ts)
  pub formed : Each ts (λ t. CostTable L t.images t.costs)
  pub kept : sides_at L ts ≤ most_sides

-- the tables ts were read: their figures, and the far sides of the last tree in the first places of a local array
pub record Stands (L : ℕ) (ts : List Table) (here : Standing) : Type 0 where
  pub sound : Sound L ts
  pub figures : here.figures ≡ figures_of L ts
  pub last_room : length here.last ≡ 128
  pub few : here.rows ≤ 128
  pub last_sides : take here.rows here.last ≡ fars (last_tree (trees L ts))

-- and their entries in front of the three slices
pub record Holds (L : ℕ) (ts : List Table) (here : Standing) (f t s : List ℕ) : Type 0 where
  pub room : Room most_sides f t s
  pub stored : Stored (entries_at L ts) here.figures.sides f t s f t s
