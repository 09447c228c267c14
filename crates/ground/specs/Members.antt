-- Which numbers stand in a list, and where. Assumes nothing.
use Rattle.std.specs.Prelude.{Bool, cond, false, ◌||◌, List, [], ◌∷◌, suc, ℕ, eqb}
use Rattle.ground.specs.Counts.{one_if}
use Rattle.ground.specs.Sums.{sum}

-- x stands in l
abbrev pub is_in : ℕ → List ℕ → Bool
is_in x [] = false
is_in x (y ∷ l) = eqb x y || is_in x l

-- the place of x in l, counted on from i; 0 where it is not there
abbrev pub place_of : ℕ → ℕ → List ℕ → ℕ
place_of i x [] = 0
place_of i x (y ∷ l) = cond (eqb x y) i (place_of (suc i) x l)

-- how often x stands in l
abbrev pub occurs : ℕ → List ℕ → ℕ
occurs x l = sum l (λ y. one_if (eqb x y))
