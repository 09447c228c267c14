-- What each function of the code is given, where ts were read. Assumes nothing.
use Rattle.std.specs.Prelude.{true, List, ◌≡◌, ℕ, ◌+◌, ◌<◌, ◌^◌, ◌≤◌, length}
use Rattle.ground.specs.Filters.{Each}
use Rattle.theory.specs.Tables.{CostTable, limit}
use Rattle.tree.specs.LocalRows.{rows_in}
use Rattle.figures.specs.Checks.{most_tables}
use Rattle.counting.specs.Standing.{Holds, Stands}
use Rattle.figures.specs.Tables.{Table, is_accepted, tree_of}
use Rattle.counting.specs.declared.Rows.{Rows}
use Rattle.counting.specs.declared.Standing.{Standing}

-- a table that passed the reader's checks
pub record ReadReady (ts : List Table) (tb : Table) (here : Standing) (f t s : List ℕ) : Type 0 where
  pub stands : Stands limit ts here
  pub holds : Holds limit ts here f t s
  pub below : length ts < most_tables
  pub formed : CostTable limit tb.images tb.costs
  pub fits : here.figures.used + tb.used < 2 ^ 64

-- and has the n of those before
pub record TableReady (ts : List Table) (tb : Table) (here : Standing) (f t s : List ℕ) : Type 0 where
  pub read : ReadReady ts tb here f t s
  pub one : Each ts (λ t. t.images ≡ tb.images)

-- and its tree, once it was accepted
pub record TreeReady (ts : List Table) (tb : Table) (tree : Rows) (here : Standing) (f t s : List ℕ) : Type 0 where
  pub table : TableReady ts tb here f t s
  pub accepted : is_accepted tb ≡ true
  pub is : rows_in tree.fars tree.costs tree.count ≡ tree_of limit tb
  pub far-room : length tree.fars ≡ 128
  pub cost-room : length tree.costs ≡ 128
  pub few : tree.count ≤ 128
