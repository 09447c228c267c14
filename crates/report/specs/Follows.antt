-- Which tables are read, without the recursion. Assumes nothing.
use Rattle.ground.specs.Refusals.{Check}
use Rattle.std.specs.Prelude.{List, [], ◌++◌, ◌∷◌, ◌≡◌, ℕ, ◌<◌, ◌≤◌, drop, length, Ok, Err}
use Rattle.ground.specs.Sums.{sum}
use Rattle.ground.specs.declared.Refusal.{Refusal}
use Rattle.theory.specs.Tables.{limit}
use Rattle.figures.specs.Checks.{most_tables, next_check}
use Rattle.figures.specs.Tables.{Table, table_at}

-- the bytes that the tables used
abbrev pub used_by : List Table → ℕ
used_by ts = sum ts (λ t. t.used)

-- ts stand one behind the other from the front of the bytes, and each passed its checks once those before it were read
pub data Follows (bytes : List ℕ) : List Table → Type 0 where
  none : Follows bytes []
  more : {ts : List Table} → Follows bytes ts → used_by ts < length bytes → next_check limit ts (drop (used_by ts) bytes) ≡ Ok tt
      → Follows bytes (ts ++ (table_at (drop (used_by ts) bytes) ∷ []))

-- how it ended: the bytes ended there, 500 tables were read, or the next table was refused
pub data Ends (bytes : List ℕ) (ts : List Table) (stop : Check) : Type 0 where
  bytes_end : used_by ts ≡ length bytes → stop ≡ Ok tt → Ends bytes ts stop
  tables_end : length ts ≡ most_tables → stop ≡ Ok tt → Ends bytes ts stop
  refused : (r : Refusal) → length ts < most_tables → used_by ts < length bytes → next_check limit ts (drop (used_by ts) bytes) ≡ Err r → stop ≡ Err r
      → Ends bytes ts stop

-- the whole reading is such
pub record ReadSo (bytes : List ℕ) (ts : List Table) (stop : Check) : Type 0 where
  pub follows : Follows bytes ts
  pub few : length ts ≤ most_tables
  pub within : used_by ts ≤ length bytes
  pub ends : Ends bytes ts stop
