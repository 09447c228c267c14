-- What was read, spelled. Assumes nothing.
use Rattle.std.specs.Prelude.{List, [], ◌++◌, ◌∷◌, ℕ}
use Rattle.text.specs.Decimal.{decimal}
use Rattle.newick_text.specs.Trees.{Head, closed, listed, named, text}
use Rattle.newick_text.specs.States.{Digits, Open, State, blank, costing, dead, done, ended, head, outermost, start, value, vertex, within}

abbrev pub head_text : Head → List ℕ
head_text (named i) = decimal i
head_text (closed g) = 40 ∷ listed 41 g

abbrev pub open_text : Open → List ℕ
open_text (outermost f) = 40 ∷ listed 44 f
open_text (within f o) = open_text o ++ (40 ∷ listed 44 f)

abbrev pub digits_text : Digits → List ℕ
digits_text blank = []
digits_text (value x) = decimal x

unfoldable pub spelled : State → List ℕ
spelled start = []
spelled (vertex o) = open_text o
spelled (head o v) = open_text o ++ head_text v
spelled (costing o v x) = open_text o ++ (head_text v ++ (58 ∷ digits_text x))
spelled (ended f) = 40 ∷ listed 41 f
spelled (done f) = text f
spelled dead = []
