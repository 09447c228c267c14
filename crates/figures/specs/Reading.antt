-- Which tables are read, and how the report ends. Assumes nothing.
use Rattle.ground.specs.Refusals.{Check}
use Rattle.std.specs.Prelude.{List, [], ◌++◌, ◌∷◌, suc, zero, ℕ, drop, Ok, Err}
use Rattle.figures.specs.Tables.{Table, table_at}
use Rattle.figures.specs.Checks.{most_tables, next_check}

-- the tables read, and how it ended
pub record Ended : Type 0 where
  pub read : List Table
  pub stop : Check

abbrev pub ended : List Table → Check → Ended
ended ts c = record { read = ts; stop = c }

-- a refusal ends the report at the tables before; else it goes on
abbrev pub go_on : Check → List Table → Ended → Ended
go_on (Ok tt) ts e = e
go_on (Err r) ts e = ended ts (Err r)

-- at most k tables more from the bytes s, once ts were read: it ends where the bytes end
unfoldable pub read_on : ℕ → ℕ → List Table → List ℕ → Ended
read_on L zero ts s = ended ts (Ok tt)
read_on L (suc k) ts [] = ended ts (Ok tt)
read_on L (suc k) ts (b ∷ s) =
    go_on (next_check L ts (b ∷ s)) ts
    (read_on L k (ts ++ (table_at (b ∷ s) ∷ [])) (drop (table_at (b ∷ s)).used (b ∷ s)))

-- from the front
abbrev pub read_all : ℕ → List ℕ → Ended
read_all L bytes = read_on L most_tables [] bytes
