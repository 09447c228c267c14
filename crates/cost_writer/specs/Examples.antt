-- Which refusal comes first where several would, computed. Assumes nothing.
use Rattle.std.specs.Prelude.{List, [], ◌∷◌, ℕ}

-- three images: x between the second and the third, y below the diagonal, and 1,000,001 between the first and the third
abbrev pub three : ℕ → ℕ → List ℕ
three x y = 0 ∷ 1 ∷ 1000001 ∷ 1 ∷ 0 ∷ x ∷ 1000001 ∷ y ∷ 0 ∷ []
