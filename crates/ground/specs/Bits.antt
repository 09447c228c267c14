-- The bits of a number: bit i is 1 or 0. Assumes nothing.
use Rattle.std.specs.Prelude.{suc, zero, ℕ, ◌%◌, ◌*◌, ◌+◌, ◌/◌}

-- bit i of x, by recursion on the place, so that each step is a half and a remainder by 2
abbrev pub bit : ℕ → ℕ → ℕ
bit x zero = x % 2
bit x (suc i) = bit (x / 2) i

-- the number with the bits f 0 to f (k - 1)
abbrev pub num : ℕ → (ℕ → ℕ) → ℕ
num zero f = 0
num (suc k) f = f 0 + 2 * num k (λ m. f (suc m))
