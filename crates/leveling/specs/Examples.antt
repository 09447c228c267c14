-- Examples of refusal 21, computed: the settled tables E and G have levels and D has none; a table whose threes with image 1 all pass has
-- none; and of two threes that fail the first is that of the dictionary, though its last image is a later one. Assumes nothing.
use Rattle.std.specs.Prelude.{List, [], ◌∷◌, ℕ}

abbrev pub E : List ℕ
E = 0 ∷ 2 ∷ 4 ∷ 4 ∷ 2 ∷ 0 ∷ 4 ∷ 4 ∷ 4 ∷ 4 ∷ 0 ∷ 2 ∷ 4 ∷ 4 ∷ 2 ∷ 0 ∷ []

abbrev pub G : List ℕ
G = 0 ∷ 2 ∷ 2 ∷ 2 ∷ 2 ∷ 0 ∷ 2 ∷ 2 ∷ 2 ∷ 2 ∷ 0 ∷ 2 ∷ 2 ∷ 2 ∷ 2 ∷ 0 ∷ []

abbrev pub D : List ℕ
D = 0 ∷ 1 ∷ 1 ∷ 1 ∷ 0 ∷ 2 ∷ 1 ∷ 2 ∷ 0 ∷ []

-- all images 5 away from image 1
abbrev pub around_one : List ℕ
around_one = 0 ∷ 5 ∷ 5 ∷ 5 ∷ 5 ∷ 0 ∷ 1 ∷ 2 ∷ 5 ∷ 1 ∷ 0 ∷ 3 ∷ 5 ∷ 2 ∷ 3 ∷ 0 ∷ []

-- 1 2 5 and 1 3 4 fail, and neither 1 2 3 nor 1 2 4 does
abbrev pub two_fail : List ℕ
two_fail =
    0 ∷ 1 ∷ 2 ∷ 3 ∷ 5
    ∷ 1 ∷ 0 ∷ 2 ∷ 3 ∷ 6
    ∷ 2 ∷ 2 ∷ 0 ∷ 1 ∷ 5
    ∷ 3 ∷ 3 ∷ 1 ∷ 0 ∷ 5
    ∷ 5 ∷ 6 ∷ 5 ∷ 5 ∷ 0 ∷ []
