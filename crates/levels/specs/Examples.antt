-- Examples of groups and heights, computed: the settled tables E, whose groups are two pairs and all images, and G, whose only group is all
-- of them; a table of five images with one group inside another, both with image 1; and B, whose zeros the call refuses first.
-- Assumes nothing.
use Rattle.std.specs.Prelude.{List, [], ◌∷◌, ℕ}

abbrev pub B : List ℕ
B = 0 ∷ 0 ∷ 0 ∷ 0 ∷ 0 ∷ 0 ∷ 0 ∷ 0 ∷ 0 ∷ []

-- images 1 and 4 at 3, with 2 at 5, and the others at 8
abbrev pub inside : List ℕ
inside =
    0 ∷ 5 ∷ 8 ∷ 3 ∷ 8
    ∷ 5 ∷ 0 ∷ 8 ∷ 5 ∷ 8
    ∷ 8 ∷ 8 ∷ 0 ∷ 8 ∷ 8
    ∷ 3 ∷ 5 ∷ 8 ∷ 0 ∷ 8
    ∷ 8 ∷ 8 ∷ 8 ∷ 8 ∷ 0 ∷ []
