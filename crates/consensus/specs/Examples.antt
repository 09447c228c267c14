-- Small teams, computed: the trees of document 01's examples A, D, E and G. Assumes nothing.
use Rattle.std.specs.Prelude.{List, [], ◌∷◌, ℕ}
use Rattle.theory.specs.LinkTables.{Row}

abbrev pub rows_a : List Row
rows_a = (2, 1) ∷ (4, 1) ∷ (6, 1) ∷ []

abbrev pub rows_d : List Row
rows_d = (2, 2) ∷ (4, 2) ∷ (6, 0) ∷ []

abbrev pub rows_e : List Row
rows_e = (2, 2) ∷ (4, 2) ∷ (8, 2) ∷ (12, 4) ∷ (14, 2) ∷ []

abbrev pub rows_g : List Row
rows_g = (2, 2) ∷ (4, 2) ∷ (8, 2) ∷ (14, 2) ∷ []

abbrev pub table_a : List ℕ
table_a = 0 ∷ 1 ∷ 1 ∷ 1 ∷ 0 ∷ 1 ∷ 1 ∷ 1 ∷ 0 ∷ []

abbrev pub table_c : List ℕ
table_c = 0 ∷ 1 ∷ 1 ∷ 1 ∷ 0 ∷ 3 ∷ 1 ∷ 3 ∷ 0 ∷ []

abbrev pub table_d : List ℕ
table_d = 0 ∷ 1 ∷ 1 ∷ 1 ∷ 0 ∷ 2 ∷ 1 ∷ 2 ∷ 0 ∷ []

abbrev pub marks : List ℕ
marks = 9 ∷ 9 ∷ 9 ∷ 9 ∷ []
