-- The cost tables of a team, joined in one slice, and the links that their trees share. Assumes nothing.
use Rattle.std.specs.Prelude.{List, map, ◌≡◌, ℕ, ◌*◌, ◌-◌, ◌≤◌, drop, length, take}
use Rattle.ground.specs.Ranges.{from}
use Rattle.theory.specs.LinkTables.{Row}
use Rattle.tree.specs.Exact.{exact_rows}
use Rattle.shared_rows.specs.Consensus.{consensus}

-- table k of those joined in t, counted from 0; each has n * n numbers
unfoldable pub table_at : ℕ → List ℕ → ℕ → List ℕ
table_at n t k = take (n * n) (drop (k * (n * n)) t)

-- the first m of them
abbrev pub tables_in : ℕ → ℕ → List ℕ → List (List ℕ)
tables_in n m t = map (table_at n t) (from 0 m)

-- the links that the exact readings of the tables share
abbrev pub shared_links : ℕ → ℕ → List (List ℕ) → List Row
shared_links L n ts = consensus n (map (exact_rows L n) ts)

-- one to sixteen tables over 3 to 64 images stand joined in t
pub record Joined (n m : ℕ) (t : List ℕ) : Type 0 where
  pub some : 3 ≤ n
  pub few : n ≤ 64
  pub one : 1 ≤ m
  pub sixteen : m ≤ 16
  pub sized : length t ≡ m * (n * n)

-- and outputs of f and v places have room for every tree
pub record TeamReady (n m : ℕ) (t : List ℕ) (f v : ℕ) : Type 0 where
  pub joined : Joined n m t
  pub far-room : 2 * n - 3 ≤ f
  pub cost-room : 2 * n - 3 ≤ v
