-- Numbers in a line of text: one blank stands before each. Assumes nothing.
use Rattle.std.specs.Prelude.{List, [], ◌++◌, ◌∷◌, ℕ}
use Rattle.text.specs.Decimal.{decimal}

-- one blank, and the number
unfoldable pub field : ℕ → List ℕ
field x = 32 ∷ decimal x

-- each number behind one blank
unfoldable pub fields : List ℕ → List ℕ
fields [] = []
fields (x ∷ l) = field x ++ fields l
