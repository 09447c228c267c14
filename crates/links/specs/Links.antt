-- A link table in two slices, once its checks have passed. Assumes nothing.
use Rattle.std.specs.Prelude.{List, ◌≡◌, ℕ, ◌≤◌, length}
use Rattle.theory.specs.LinkTables.{LinkTable, rows_of}

-- n images, and N rows that are a link table
pub record Links (L n N : ℕ) (l v : List ℕ) : Type 0 where
  pub some : 3 ≤ n
  pub few : n ≤ 64
  pub counted : length l ≡ N
  pub costed : length v ≡ N
  pub table : LinkTable L n (rows_of l v)
