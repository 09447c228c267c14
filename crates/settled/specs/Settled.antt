-- What a settled example of document 01 says of the definitions. Images are 1 to n here, as in document 01.
use Rattle.std.specs.Prelude.{List, map, ◌≡◌, suc, ℕ, ◌-◌, ◌≤◌, Err}
use Rattle.ground.specs.Refusals.{refusal, ◌then◌, Check}
use Rattle.theory.specs.LinkTables.{Row, fars}
use Rattle.theory.specs.Order.{AnOrder, closed, order}
use Rattle.theory.specs.OrderRules.{counted_from0}
use Rattle.theory.specs.Readings.{Exact, measured}
use Rattle.theory.specs.Tables.{CostTable, limit}
use Rattle.tables.specs.Checks.{costs_check, size_check}
use Rattle.counts.specs.Differ.{differ}
use Rattle.counts.specs.declared.Difference.{Difference}
use Rattle.settled.specs.Triangles.{square, table}
use Rattle.wiring.specs.Check.{wiring_check}

-- the order around the tree from first, with last
abbrev pub around : ℕ → List ℕ → ℕ → ℕ → List ℕ
around n t first last = order (table n t) n (first - 1) (last - 1)

-- the rows of the measured reading
abbrev pub rows_read : ℕ → List ℕ → List Row
rows_read n t = measured limit (table n t) n

-- the checks of every reading, 1, 2, 4, 5, 6, 20
abbrev pub table_checks : ℕ → List ℕ → Check
table_checks n t = size_check n (square n t) then costs_check limit (table n t) n

-- an example: n, an upper triangle, and what is settled of them
pub data Settled : Type 0 where
  -- both readings have the rows T
  reads : (n : ℕ) (t : List ℕ) (T : List Row) → Settled
  -- the exact reading refuses with 7 at i, j, k, l; the measured reading has the rows T
  refused : (n : ℕ) (t : List ℕ) (i j k l : ℕ) (T : List Row) → Settled
  -- every reading refuses with 20 at i, j
  untimed : (n : ℕ) (t : List ℕ) (i j : ℕ) → Settled
  -- the order from first with last is l, its closed sum s
  ordered : (n : ℕ) (t : List ℕ) (first last : ℕ) (l : List ℕ) (s : ℕ) → Settled
  -- the ring l holds each image once, its closed sum is s, and no ring is shorter
  shortest : (n : ℕ) (t : List ℕ) (l : List ℕ) (s : ℕ) → Settled
  -- t against u has the difference x, the count and what it is set over
  compared : (n : ℕ) (t u : List ℕ) (x : Difference) → Settled

-- what it says is so
abbrev pub Holds : Settled → Type 0
Holds (reads n t T) =
    CostTable limit n (square n t) × Exact limit (table n t) n T × (rows_read n t ≡ T)
Holds (refused n t i j k l T) =
    CostTable limit n (square n t) × (wiring_check (table n t) n ≡ Err (refusal 7 i j k l)) × (rows_read n t ≡ T)
Holds (untimed n t i j) = table_checks n t ≡ Err (refusal 20 i j 0 0)
Holds (ordered n t first last l s) =
    CostTable limit n (square n t) × (map suc (around n t first last) ≡ l) × (closed (table n t) (around n t first last) ≡ s)
Holds (shortest n t l s) =
    AnOrder n (counted_from0 l) × (closed (table n t) (counted_from0 l) ≡ s) × ((m : List ℕ) → AnOrder n m → s ≤ closed (table n t) m)
Holds (compared n t u x) =
    Exact limit (table n t) n (rows_read n t) × Exact limit (table n u) n (rows_read n u) × (differ n (fars (rows_read n t)) (fars (rows_read n u)) ≡ x)
