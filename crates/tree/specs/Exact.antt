-- The exact reading of one table where room is no question: its checks, its rows, and what a call leaves. Crates that stand on the
-- promise of this one speak of tables and trees by these names. Assumes nothing.
use Rattle.std.specs.Prelude.{List, ◌≡◌, ℕ, ◌*◌, ◌+◌, ◌^◌, ◌≤◌, length, take, Ok}
use Rattle.ground.specs.Ascending.{Between}
use Rattle.ground.specs.Refusals.{places_if, ◌then◌, Check, Written}
use Rattle.theory.specs.FourPoint.{FourPoint}
use Rattle.theory.specs.LinkTables.{Row, fars}
use Rattle.theory.specs.Readings.{measured}
use Rattle.theory.specs.Tables.{CostTable, cost}
use Rattle.tables.specs.Checks.{costs_check, length_check}
use Rattle.wiring.specs.Check.{wiring_check}

-- 4, 5, 6, 20, 7
unfoldable pub tree_check : ℕ → ℕ → List ℕ → Check
tree_check L n t = costs_check L (cost t n) n then wiring_check (cost t n) n

-- 2 in front
unfoldable pub table_check : ℕ → ℕ → List ℕ → Check
table_check L n t = length_check n t then tree_check L n t

-- a table that the exact reading accepts: a cost table with the four-point condition, so that some wiring gives it
pub record Wired (L n : ℕ) (t : List ℕ) : Type 0 where
  pub table : CostTable L n t
  pub condition : FourPoint (cost t n) n

-- the rows of its tree; on an accepted table both readings agree
unfoldable pub exact_rows : ℕ → ℕ → List ℕ → List Row
exact_rows L n t = measured L (cost t n) n

abbrev pub exact_sides : ℕ → ℕ → List ℕ → List ℕ
exact_sides L n t = fars (exact_rows L n t)

-- ## A call with room enough, whose costs are not wanted

-- it answered r and left the far sides f: refused as the table's check says, or so many far sides in front
pub record SidesRead (L n : ℕ) (t : List ℕ) (r : Written) (f : List ℕ) : Type 0 where
  pub answered : r ≡ places_if (table_check L n t) (length (exact_sides L n t))
  pub stand : table_check L n t ≡ Ok tt → take (length (exact_sides L n t)) f ≡ exact_sides L n t

-- it accepted the table: the first k places of f are the far sides of its tree
pub record SidesStand (L n : ℕ) (t : List ℕ) (k : ℕ) (f : List ℕ) : Type 0 where
  pub passed : table_check L n t ≡ Ok tt
  pub sides : take k f ≡ exact_sides L n t
  pub counted : length (take k f) ≡ k
  pub few : k + 3 ≤ 2 * n
  pub ascending : Between 1 (take k f) (2 ^ n)
