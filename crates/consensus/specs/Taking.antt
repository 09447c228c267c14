-- The tables taken one after another: what is held in local arrays of 128 places, and what is known by then. Assumes nothing.
use Rattle.ground.specs.Refusals.{Written, refused_in}
use Rattle.std.specs.Prelude.{List, ◌≡◌, ℕ, ◌≤◌, length, take, Ok, Err}
use Rattle.ground.specs.Filters.{Each}
use Rattle.ground.specs.declared.Refusal.{Refusal}
use Rattle.theory.specs.LinkTables.{Row, costs, fars}
use Rattle.tree.specs.Exact.{Wired, exact_rows, tree_check}
use Rattle.consensus.specs.Call.{table_by_table, Shared}
use Rattle.consensus.specs.Team.{shared_links, tables_in}

-- the rows of T stand in the first c of 128 places
pub record RowsHeld (T : List Row) (f v : List ℕ) (c : ℕ) : Type 0 where
  pub far-part : take c f ≡ fars T
  pub cost-part : take c v ≡ costs T
  pub counted : c ≡ length T
  pub few : c ≤ 128
  pub far-room : length f ≡ 128
  pub cost-room : length v ≡ 128

-- a table read exactly: refused as its checks say, or its tree is held
pub record TreeRead (L n : ℕ) (u : List ℕ) (r : Written) (f v : List ℕ) : Type 0 where
  pub refused : (q : Refusal) → r ≡ Err q → tree_check L n u ≡ Err q
  pub accepted : (c : ℕ) → r ≡ Ok c → Wired L n u × RowsHeld (exact_rows L n u) f v c

-- the first k tables are accepted, and what they share is held
pub record Shares (L n : ℕ) (t : List ℕ) (k : ℕ) (f v : List ℕ) (c : ℕ) : Type 0 where
  pub wired : Each (tables_in n k t) (Wired L n)
  pub held : RowsHeld (shared_links L n (tables_in n k t)) f v c

-- of m tables k were taken: the first that is refused, or what they share
pub record Taken (L n m : ℕ) (t : List ℕ) (k : ℕ) (r : Shared) (f v : List ℕ) : Type 0 where
  pub refused : (j : ℕ) (q : Refusal) → r ≡ refused_in j q → (y : Shared) → table_by_table L n t 0 m y ≡ refused_in j q
  pub accepted : (c : ℕ) → r ≡ Ok c → Shares L n t k f v c
