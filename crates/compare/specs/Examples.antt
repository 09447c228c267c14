-- Small comparisons, computed: settled examples of document 01, and three trees that show that the disagreement is no distance. Assumes
-- nothing.
use Rattle.std.specs.Prelude.{List, [], ◌∷◌, ℕ, Ok}
use Rattle.compare.specs.Call.{Comparison}

abbrev pub table_a : List ℕ
table_a = 0 ∷ 1 ∷ 1 ∷ 1 ∷ 0 ∷ 1 ∷ 1 ∷ 1 ∷ 0 ∷ []

abbrev pub table_e : List ℕ
table_e = 0 ∷ 2 ∷ 4 ∷ 4 ∷ 2 ∷ 0 ∷ 4 ∷ 4 ∷ 4 ∷ 4 ∷ 0 ∷ 2 ∷ 4 ∷ 4 ∷ 2 ∷ 0 ∷ []

-- E with images 2 and 3 exchanged
abbrev pub exchanged_e : List ℕ
exchanged_e = 0 ∷ 4 ∷ 2 ∷ 4 ∷ 4 ∷ 0 ∷ 4 ∷ 2 ∷ 2 ∷ 4 ∷ 0 ∷ 4 ∷ 4 ∷ 2 ∷ 4 ∷ 0 ∷ []

abbrev pub table_g : List ℕ
table_g = 0 ∷ 2 ∷ 2 ∷ 2 ∷ 2 ∷ 0 ∷ 2 ∷ 2 ∷ 2 ∷ 2 ∷ 0 ∷ 2 ∷ 2 ∷ 2 ∷ 2 ∷ 0 ∷ []

-- inner rows of the first and of the second, common ones, and the count over its divisor
abbrev pub answer : ℕ → ℕ → ℕ → ℕ → ℕ → Comparison
answer f g c d m = Ok (record { first = f; second = g; common = c; count = d; over = m })

-- five images with an inner row for 2 and 3, with one for 4 and 5, and with both
abbrev pub table_low : List ℕ
table_low =
    0 ∷ 3 ∷ 3 ∷ 2 ∷ 2 ∷ 3 ∷ 0 ∷ 2 ∷ 3 ∷ 3 ∷ 3 ∷ 2 ∷ 0 ∷ 3 ∷ 3 ∷ 2 ∷ 3 ∷ 3 ∷ 0 ∷ 2 ∷ 2 ∷ 3 ∷ 3 ∷ 2 ∷ 0 ∷ []

abbrev pub table_high : List ℕ
table_high =
    0 ∷ 2 ∷ 2 ∷ 3 ∷ 3 ∷ 2 ∷ 0 ∷ 2 ∷ 3 ∷ 3 ∷ 2 ∷ 2 ∷ 0 ∷ 3 ∷ 3 ∷ 3 ∷ 3 ∷ 3 ∷ 0 ∷ 2 ∷ 3 ∷ 3 ∷ 3 ∷ 2 ∷ 0 ∷ []

abbrev pub table_both : List ℕ
table_both =
    0 ∷ 3 ∷ 3 ∷ 3 ∷ 3 ∷ 3 ∷ 0 ∷ 2 ∷ 4 ∷ 4 ∷ 3 ∷ 2 ∷ 0 ∷ 4 ∷ 4 ∷ 3 ∷ 4 ∷ 4 ∷ 0 ∷ 2 ∷ 3 ∷ 4 ∷ 4 ∷ 2 ∷ 0 ∷ []
