-- What is noted of a text, computed. Assumes nothing.
use Rattle.std.specs.Prelude.{List, [], ◌∷◌, refl, ◌≡◌, ℕ, length}
use Rattle.text.specs.Decimal.{decimal, digits}
use Rattle.text.specs.Words.{bytes_of}
use Rattle.newick_text.specs.Trees.{listed}
use Rattle.newick_text.specs.Tables.{names}
use Rattle.newick_text.specs.Bytes.{run, step}
use Rattle.newick_text.specs.Noting.{fallen, marked, noted}
use Rattle.newick_text.specs.Reading.{tree_in}

unfoldable pub falling_text : List ℕ
falling_text = bytes_of "(1:2,(3:2,2:2):4,4:2);"

-- four images, rows in the order in which their costs end, and image 2 falls at place 11; its bracket, which begins at place 6, does not fall
pub example_falling : (length (names (tree_in falling_text)) ≡ 4) × (marked 0 (tree_in falling_text) ≡ 15) × (fallen 0 2 0 (tree_in falling_text) ≡ 11)
    × (noted 0 (tree_in falling_text) ≡ (1, 2) ∷ (4, 2) ∷ (2, 2) ∷ (6, 4) ∷ (8, 2) ∷ [])
unfolding bytes_of falling_text run step names marked noted fallen listed decimal digits
example_falling = (refl, refl, refl, refl)
