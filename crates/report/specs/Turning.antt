-- What the next table does. The tables read are in no variable of the code: so a function asks that there are such tables, and promises
-- what it has done for all of them. Assumes nothing.
use Rattle.std.specs.Prelude.{List, [], ◌++◌, ◌∷◌, ℕ, ◌<◌, ◌≤◌, drop, length}
use Rattle.ground.specs.Refusals.{◌then◌}
use Rattle.theory.specs.Tables.{limit}
use Rattle.figures.specs.Checks.{many_check, most_tables, next_check, same_check}
use Rattle.counting.specs.Ready.{ReadReady}
use Rattle.counting.specs.Standing.{Holds, Stands}
use Rattle.figures.specs.Tables.{Table, table_at}
use Rattle.counting.specs.Taking.{Moved, Turn}
use Rattle.counting.specs.declared.Standing.{Standing}

-- it stands between two tables, with bytes left
pub record Paused (ts : List Table) (bytes : List ℕ) (here : Standing) (f t s : List ℕ) : Type 0 where
  pub stands : Stands limit ts here
  pub holds : Holds limit ts here f t s
  pub below : length ts < most_tables
  pub within : here.figures.used ≤ length bytes

-- there are such tables read
pub record SomeRead (tb : Table) (here : Standing) (f t s : List ℕ) : Type 0 where
  pub ts : List Table
  pub ready : ReadReady ts tb here f t s

-- for all tables read of which that holds: this one was judged by 15 and 19
pub record ReadTaken (tb : Table) (here : Standing) (f t s : List ℕ) (r : Turn) (f' t' s' : List ℕ) : Type 0 where
  pub taken : (ts : List Table) → ReadReady ts tb here f t s
      → Moved limit (same_check ts tb.images then many_check limit (ts ++ (tb ∷ []))) ts tb r f t s f' t' s'

-- there are such tables read
pub record SomePaused (bytes : List ℕ) (here : Standing) (f t s : List ℕ) : Type 0 where
  pub ts : List Table
  pub paused : Paused ts bytes here f t s

-- for all tables read of which that holds: the next one was judged by all its checks
pub record Turned (bytes : List ℕ) (here : Standing) (f t s : List ℕ) (r : Turn) (f' t' s' : List ℕ) : Type 0 where
  pub turned : (ts : List Table) → Paused ts bytes here f t s
      → Moved limit (next_check limit ts (drop here.figures.used bytes)) ts (table_at (drop here.figures.used bytes)) r f t s f' t' s'
