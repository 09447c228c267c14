-- What 20 says: it names the first two images that cost nothing, a link that nobody timed. Assumes nothing.
use Rattle.std.specs.Prelude.{◌≡◌, ℕ, ◌+◌, ◌<◌}
use Rattle.ground.specs.Refusals.{refusal}
use Rattle.ground.specs.declared.Refusal.{Refusal}

-- row and column of the first zero right of the diagonal, row by row, counted from 1 in the refusal r
pub record FirstZero (d : ℕ → ℕ → ℕ) (n : ℕ) (r : Refusal) : Type 0 where
  pub row : ℕ
  pub column : ℕ
  pub above : row < column
  pub within : column < n
  pub zero : d row column ≡ 0
  pub named : r ≡ refusal 20 (row + 1) (column + 1) 0 0
  pub rows_before : (i j : ℕ) → i < row → i < j → j < n → 0 < d i j
  pub columns_before : (j : ℕ) → row < j → j < column → 0 < d row j
