-- What one table more does. The tables read are in no variable of the code: so a function asks that there are such tables, and promises
-- what it has done for all of them. Assumes nothing.
use Rattle.ground.specs.Refusals.{Check}
use Rattle.std.specs.Prelude.{Result, List, [], ◌++◌, ◌∷◌, ◌≡◌, ℕ, ◌≤◌, length, Ok, Err}
use Rattle.theory.specs.Tables.{limit}
use Rattle.seen.specs.Columns.{Stored}
use Rattle.figures.specs.Figures.{entries_at}
use Rattle.figures.specs.Checks.{many_check}
use Rattle.counting.specs.Ready.{TableReady, TreeReady}
use Rattle.counting.specs.Standing.{Stands}
use Rattle.figures.specs.Tables.{Table, table_of}
use Rattle.counting.specs.declared.Rows.{Rows}
use Rattle.counting.specs.declared.Standing.{Standing}
use Rattle.ground.specs.declared.Refusal.{Refusal}

-- where the report stands after a table, and whether that was refused
pub record Turn : Type 0 where
  pub standing : Standing
  pub stop : Check

-- of what a call answers that stood here before: a table that is refused leaves it there
abbrev pub turn_from : Standing → Result Standing Refusal → Turn
turn_from here (Ok x) = record { standing = x; stop = Ok tt }
turn_from here (Err r) = record { standing = here; stop = Err r }

-- the tables read after a check: one more where it passed
abbrev pub onward : Check → List Table → Table → List Table
onward (Ok tt) ts tb = ts ++ (tb ∷ [])
onward (Err r) ts tb = ts

-- a table more was judged by the check: where the code stands then, and the slices, which were f, t, s
pub record Moved (L : ℕ) (c : Check) (ts : List Table) (tb : Table) (r : Turn) (f t s f' t' s' : List ℕ) : Type 0 where
  pub stopped : r.stop ≡ c
  pub stands : Stands L (onward c ts tb) r.standing
  pub grown : length (entries_at L ts) ≤ length (entries_at L (onward c ts tb))
  pub stored : Stored (entries_at L (onward c ts tb)) r.standing.figures.sides f t s f' t' s'

-- there are such tables read and such a table
pub record SomeTree (n more : ℕ) (tree : Rows) (here : Standing) (f t s : List ℕ) : Type 0 where
  pub ts : List Table
  pub u : List ℕ
  pub ready : TreeReady ts (table_of n more u) tree here f t s

-- for all tables read of which that holds: this one was judged by 19, and counted where it passed
pub record TreeTaken (n more : ℕ) (tree : Rows) (here : Standing) (f t s : List ℕ) (r : Turn) (f' t' s' : List ℕ) : Type 0 where
  pub taken : (ts : List Table) (u : List ℕ) → TreeReady ts (table_of n more u) tree here f t s
      → Moved limit (many_check limit (ts ++ (table_of n more u ∷ []))) ts (table_of n more u) r f t s f' t' s'

-- there are such tables read
pub record SomeTable (tb : Table) (here : Standing) (f t s : List ℕ) : Type 0 where
  pub ts : List Table
  pub ready : TableReady ts tb here f t s

-- for all tables read of which that holds: this one was judged by 19, and counted, or counted apart
pub record TableTaken (tb : Table) (here : Standing) (f t s : List ℕ) (r : Turn) (f' t' s' : List ℕ) : Type 0 where
  pub taken : (ts : List Table) → TableReady ts tb here f t s
      → Moved limit (many_check limit (ts ++ (tb ∷ []))) ts tb r f t s f' t' s'
