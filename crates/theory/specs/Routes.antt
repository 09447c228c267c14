-- Upper rows and routes, in document 01's words. Rows are numbered from 1.
use Rattle.std.specs.Prelude.{Bool, cond, List, [], ◌∷◌, suc, zero, ℕ, eqb, get_or, length}
use Rattle.std.specs.Int.Bits.{bit_and}
use Rattle.ground.specs.Members.{place_of}
use Rattle.theory.specs.FarSides.{own}

-- R contains S
abbrev pub contains : ℕ → ℕ → Bool
contains R S = eqb (bit_and S R) S

-- the number of the first of the far sides l, numbered on from i, that contains S; 0 where none does
abbrev pub upper_from : ℕ → ℕ → List ℕ → ℕ
upper_from i S [] = 0
upper_from i S (R ∷ l) = cond (contains R S) i (upper_from (suc i) S l)

abbrev pub uppers_from : ℕ → List ℕ → List ℕ
uppers_from i [] = []
uppers_from i (S ∷ l) = upper_from (suc i) S l ∷ uppers_from (suc i) l

-- the upper row of each row: the first later row whose far side contains it; 0 for the last row
abbrev pub uppers : List ℕ → List ℕ
uppers l = uppers_from 1 l

-- from row r by upper rows, m rows at most
abbrev pub climb : List ℕ → ℕ → ℕ → List ℕ
climb u zero r = []
climb u (suc m) zero = []
climb u (suc m) (suc r) = suc r ∷ climb u m (get_or u r 0)

-- the route of image i climbs by upper rows from its own link to the last row
abbrev pub route : ℕ → List ℕ → ℕ → List ℕ
route n l i = climb (uppers l) (length l) (place_of 1 (own n i) l)
