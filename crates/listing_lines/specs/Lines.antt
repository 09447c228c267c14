-- The lines of a listing, as bytes: fields stand one blank apart, and every line ends in a newline. Assumes nothing.
use Rattle.std.specs.Prelude.{List, [], ◌++◌, ◌∷◌, ℕ, length}
use Rattle.ground.specs.declared.Refusal.{Refusal}
use Rattle.text.specs.Decimal.{decimal}
use Rattle.text.specs.Fields.{field, fields}
use Rattle.text.specs.Words.{bytes_of}

-- the end of a line
abbrev pub newline : List ℕ
newline = 10 ∷ []

-- images N rows R
unfoldable pub header : ℕ → ℕ → List ℕ
header n r = bytes_of "images" ++ (field n ++ (bytes_of " rows" ++ (field r ++ newline)))

-- far side, doubled cost, upper row
unfoldable pub row_line : ℕ → ℕ → ℕ → List ℕ
row_line s c u = decimal s ++ (field c ++ (field u ++ newline))

-- one line for each row, where far sides, doubled costs and upper rows stand in three lists
unfoldable pub row_lines : List ℕ → List ℕ → List ℕ → List ℕ
row_lines [] v u = []
row_lines (s ∷ l) [] u = []
row_lines (s ∷ l) (c ∷ v) [] = []
row_lines (s ∷ l) (c ∷ v) (a ∷ u) = row_line s c a ++ row_lines l v u

-- order, and the images
unfoldable pub order_line : List ℕ → List ℕ
order_line o = bytes_of "order" ++ (fields o ++ newline)

-- refused, the number and the four places
unfoldable pub refused_line : Refusal → List ℕ
refused_line q = bytes_of "refused" ++ (field q.number ++ (field q.a ++ (field q.b ++ (field q.c ++ (field q.d ++ newline)))))

-- ## Several lines

-- room for every listing
abbrev pub room : ℕ
room = 10240

-- the header, a line for each row with far side, doubled cost and upper row, and the order o
unfoldable pub reading_text : ℕ → List ℕ → List ℕ → List ℕ → List ℕ → List ℕ
reading_text n l v u o = header n (length l) ++ (row_lines l v u ++ order_line o)
