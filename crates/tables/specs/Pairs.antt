-- One check of each pair of images, row below column. Assumes nothing.
use Rattle.ground.specs.Refusals.{Check}
use Rattle.std.specs.Prelude.{◌≡◌, ℕ, ◌+◌, ◌-◌, ◌<◌, Ok, Err}
use Rattle.ground.specs.Lowest.{check_all}
use Rattle.ground.specs.declared.Refusal.{Refusal}

-- row by row: the lowest row that has a refusal, and in it the lowest column
abbrev pub pairs_check : (ℕ → ℕ → Check) → ℕ → Check
pairs_check c n = check_all (λ i. check_all (c i) (i + 1) (n - (i + 1))) 0 n

-- refused: by the check of one pair, all those in rows before it and before it in its row having passed
pub record LowestPair (c : ℕ → ℕ → Check) (n : ℕ) (r : Refusal) : Type 0 where
  pub row : ℕ
  pub column : ℕ
  pub above : row < column
  pub within : column < n
  pub refused : c row column ≡ Err r
  pub rows_before : (i j : ℕ) → i < row → i < j → j < n → c i j ≡ Ok tt
  pub columns_before : (j : ℕ) → row < j → j < column → c row j ≡ Ok tt
