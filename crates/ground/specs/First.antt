-- The first place of a range at which a test holds. Assumes nothing.
use Rattle.std.specs.Prelude.{Bool, cond, false, ◌≡◌, suc, zero, ℕ, ◌<◌}

-- the least k below n at which the test holds, else n
unfoldable pub first : (ℕ → Bool) → ℕ → ℕ
first bad zero = zero
first bad (suc n) = cond (bad zero) zero (suc (first (λ k. bad (suc k)) n))

-- the test holds at no place below r
abbrev pub NoneBelow : (ℕ → Bool) → ℕ → Type 0
NoneBelow bad r = (k : ℕ) → k < r → bad k ≡ false
