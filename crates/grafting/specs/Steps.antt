-- What is closed of a path, as the code does it: the rows stand in two arrays, s and w the path, f and v the table. Assumes nothing.
use Rattle.std.specs.Prelude.{List, ◌≡◌, ℕ, ◌+◌, ◌<◌, ◌^◌, ◌≤◌, length}
use Rattle.theory.specs.LinkTables.{all_costs}
use Rattle.tree.specs.LocalRows.{rows_in}
use Rattle.rows.specs.Putting.{Ascends}
use Rattle.rows.specs.Rows.{costly, put_all}
use Rattle.path_cuts.specs.Cuts.{closed}

-- there is room in the table for all m rows of the path, and the costs of both fit 32 bits
pub record CloseRoom (m : ℕ) (s w f v : List ℕ) (count : ℕ) : Type 0 where
  pub for_side : m ≤ length s
  pub for_length : m ≤ length w
  pub ascends : Ascends f count
  pub for_far : count + m < length f
  pub for_cost : count + m < length v
  pub spent : all_costs (rows_in f v count) + all_costs (rows_in s w m) < 2 ^ 32

-- what lies behind the height h is put into the table, where it has a cost: f and v before, f' and v' after
pub record CloseRows (h m : ℕ) (s w f v : List ℕ) (count r : ℕ) (f' v' : List ℕ) : Type 0 where
  pub rows : rows_in f' v' r ≡ put_all (costly (closed h (rows_in s w m))) (rows_in f v count)
  pub ascends : Ascends f' r
  pub far-size : length f' ≡ length f
  pub cost-size : length v' ≡ length v
