-- The merge of the rows held with one tree more, in the places where they are held. Assumes nothing.
use Rattle.std.specs.Prelude.{cond, List, ◌≡◌, min, ℕ, ◌+◌, ◌≤◌, eqb, get_or, set}
use Rattle.ground.specs.Counts.{one_if}
use Rattle.theory.specs.LinkTables.{rows_of}
use Rattle.tree.specs.Writing.{rows_left}
use Rattle.shared_rows.specs.Meet.{meet}

-- 1 where x and y are the same far side, else 0
unfoldable pub one_same : ℕ → ℕ → ℕ
one_same x y = one_if (eqb x y)

-- the smaller cost where x and y are the same far side, else the first as it is
unfoldable pub met_cost : ℕ → ℕ → ℕ → ℕ → ℕ
met_cost x y c e = cond (eqb x y) (min c e) c

-- row i was stored at the place `at`, met with the far side y at the cost e, and r rows are kept
pub record RowKept (i y e at : ℕ) (f v : List ℕ) (r : ℕ) (f' v' : List ℕ) : Type 0 where
  pub count : r ≡ at + one_same (get_or f i 0) y
  pub fars : f' ≡ set f at (get_or f i 0)
  pub costs : v' ≡ set v at (met_cost (get_or f i 0) y (get_or v i 0) e)

-- of the first c rows of f and v, those that g and w have too stand in the first r places of f' and v'
pub record Met (c : ℕ) (f v g w : List ℕ) (r : ℕ) (f' v' : List ℕ) : Type 0 where
  pub few : r ≤ c
  pub rows : rows_left r f' v' ≡ meet (rows_left c f v) (rows_of g w)
