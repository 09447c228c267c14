-- What the reading of levels answers and leaves in the two lent slices, in document 02's words. Groups are a record of their own and no
-- link table. Assumes nothing.
use Rattle.std.specs.Prelude.{List, ◌≡◌, min, ℕ, ◌-◌, ◌≤◌, length}
use Rattle.ground.specs.Outcomes.{front_if}
use Rattle.ground.specs.Refusals.{places_if, room_check, ◌then◌, Check, Written}
use Rattle.theory.specs.Tables.{CostTable, cost}
use Rattle.tables.specs.Checks.{costs_check, size_check}
use Rattle.leveling.specs.Check.{levels_check}
use Rattle.levels.specs.Groups.{groups, heights}

-- 1, 2, then 3 where one of the two outputs, g and v long, has fewer than n - 1 places, then 4, 5, 6, 20, then 21
unfoldable pub levels_checks : ℕ → ℕ → List ℕ → ℕ → ℕ → Check
levels_checks L n t g v = size_check n t then room_check (n - 1) (min g v) then costs_check L (cost t n) n then levels_check (cost t n) n

-- an answer, and the two lent slices of member sums and heights as a call leaves them
pub record LevelsOutcome (A : Type 0) : Type 0 where
  pub answer : A
  pub group_list : List ℕ
  pub height_list : List ℕ

-- a call answered r and left the member sums g and the heights v, as o says
pub record LeftLevels {A : Type 0} (o : LevelsOutcome A) (r : A) (g v : List ℕ) : Type 0 where
  pub answered : r ≡ o.answer
  pub group-left : g ≡ o.group_list
  pub height-left : v ≡ o.height_list

-- the groups and their heights at the front, and how many there are; or the first refusal, and nothing altered
abbrev pub outcome : Check → (ℕ → ℕ → ℕ) → ℕ → List ℕ → List ℕ → LevelsOutcome Written
outcome c d n g v = record {
  answer = places_if c (length (groups d n));
  group_list = front_if c (groups d n) g;
  height_list = front_if c (heights d n) v;
}

abbrev pub levels_outcome : ℕ → ℕ → List ℕ → List ℕ → List ℕ → LevelsOutcome Written
levels_outcome L n t g v = outcome (levels_checks L n t (length g) (length v)) (cost t n) n g v

-- what is asked for: a cost table, and n - 1 places in each of the two outputs
pub record LevelsAsked (L n : ℕ) (t : List ℕ) (g v : ℕ) : Type 0 where
  pub table : CostTable L n t
  pub group-room : n - 1 ≤ g
  pub height-room : n - 1 ≤ v
