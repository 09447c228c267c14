-- Sums over the numbers below a bound. Assumes nothing.
use Rattle.std.specs.Prelude.{suc, zero, ℕ, ◌+◌}

-- g 0 + g 1 + .. + g (n - 1)
abbrev pub total : ℕ → (ℕ → ℕ) → ℕ
total zero g = 0
total (suc n) g = g n + total n g
