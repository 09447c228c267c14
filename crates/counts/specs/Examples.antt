-- Small differences, computed: far sides of document 01's examples E, G and H, and of E with images 2 and 3 exchanged. Assumes nothing.
use Rattle.std.specs.Prelude.{List, [], ◌∷◌, ℕ}
use Rattle.counts.specs.declared.Difference.{Difference}

abbrev pub sides_e : List ℕ
sides_e = 2 ∷ 4 ∷ 8 ∷ 12 ∷ 14 ∷ []

abbrev pub exchanged_e : List ℕ
exchanged_e = 2 ∷ 4 ∷ 8 ∷ 10 ∷ 14 ∷ []

abbrev pub sides_g : List ℕ
sides_g = 2 ∷ 4 ∷ 8 ∷ 14 ∷ []

abbrev pub sides_h : List ℕ
sides_h = 2 ∷ 4 ∷ 8 ∷ 16 ∷ 24 ∷ 32 ∷ 64 ∷ 96 ∷ 120 ∷ 122 ∷ 126 ∷ []

-- inner ones of the first and of the second, common ones, and the count over its divisor
abbrev pub numbers : ℕ → ℕ → ℕ → ℕ → ℕ → Difference
numbers f g c d m = record { first = f; second = g; common = c; count = d; over = m }
