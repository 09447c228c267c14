-- A table of the right size, before its entries are looked at. Assumes nothing.
use Rattle.std.specs.Prelude.{List, ◌≡◌, ℕ, ◌*◌, ◌≤◌, length}

-- 3 to 64 images, and n * n numbers
pub record Sized (n : ℕ) (t : List ℕ) : Type 0 where
  pub some : 3 ≤ n
  pub few : n ≤ 64
  pub sized : length t ≡ n * n
