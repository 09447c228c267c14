-- A loop that counts up and carries a number, as a definition. Assumes nothing.
use Rattle.std.specs.Prelude.{suc, zero, ℕ}

-- what the steps 0, 1, .., n - 1 make of acc, in that order
unfoldable pub fold : (ℕ → ℕ → ℕ) → ℕ → ℕ → ℕ
fold step zero acc = acc
fold step (suc n) acc = step n (fold step n acc)
