-- Signed numbers: the lower of two, the least over a list, and what is left of one that stops at 0. Assumes nothing.
use Rattle.std.specs.Prelude.{cond, List, [], ◌∷◌, suc, zero, ℕ, eqb, negsuc, pos, ℤ}
use Rattle.std.specs.Int.Signed.{lt_z}
use Rattle.ground.specs.Filters.{keep}

-- the lower of two
abbrev pub min_z : ℤ → ℤ → ℤ
min_z x y = cond (lt_z x y) x y

-- the least of f's values over a list; 0 over the empty one, which is no group of a division
abbrev pub least_z : List ℕ → (ℕ → ℤ) → ℤ
least_z [] f = pos 0
least_z (x ∷ []) f = f x
least_z (x ∷ y ∷ l) f = min_z (f x) (least_z (y ∷ l) f)

-- the numbers below n on the side g of s, descending
abbrev pub group : ℕ → (ℕ → ℕ) → ℕ → List ℕ
group zero s g = []
group (suc n) s g = keep (eqb (s n) g) n (group n s g)

-- the number, or 0 where it is negative
abbrev pub clip : ℤ → ℕ
clip (pos v) = v
clip (negsuc v) = 0
