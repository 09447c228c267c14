-- Sums over a list. Assumes nothing.
use Rattle.std.specs.Prelude.{Bool, false, true, List, [], ◌∷◌, ℕ, ◌+◌}

-- x where the test passes, else 0
abbrev pub when : Bool → ℕ → ℕ
when true x = x
when false x = 0

module _ {A : Type 0} where
  abbrev pub sum : List A → (A → ℕ) → ℕ
  sum [] f = 0
  sum (x ∷ l) f = f x + sum l f
