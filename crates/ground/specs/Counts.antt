-- How many numbers below a bound pass a test. Assumes nothing.
use Rattle.std.specs.Prelude.{Bool, false, true, suc, zero, ℕ, ◌+◌}

-- 1 where the test passes, else 0
abbrev pub one_if : Bool → ℕ
one_if true = 1
one_if false = 0

-- how many t below N pass p
abbrev pub count : ℕ → (ℕ → Bool) → ℕ
count zero p = 0
count (suc N) p = one_if (p N) + count N p
