-- The least value of f over the numbers below n on one side of a division into 0 and 1. Assumes nothing.
use Rattle.std.specs.Prelude.{Bool, false, true, ◌≡◌, min, suc, zero, ℕ, ◌<◌, eqb}

-- a is below n and on the side g of s
abbrev pub On : ℕ → (ℕ → ℕ) → ℕ → ℕ → Type 0
On n s g a = (a < n) × (s a ≡ g)

-- the lower of r and f's value at a, where the test passes; f and a stand apart so that f a is computed only then
abbrev pub lower_if : Bool → (ℕ → ℕ) → ℕ → ℕ → ℕ
lower_if true f a r = min (f a) r
lower_if false f a r = r

-- the least of cap and f's values at the numbers below n on the side g
unfoldable pub least_on : ℕ → (ℕ → ℕ) → ℕ → ℕ → (ℕ → ℕ) → ℕ
least_on zero s g cap f = cap
least_on (suc n) s g cap f = lower_if (eqb (s n) g) f n (least_on n s g cap f)
