-- Which rows are bad and which own links are missing, in document 01's words: l are the far sides, v the doubled costs; rows and images are counted from 0.
-- Assumes nothing.
use Rattle.std.specs.Prelude.{Bool, not, ◌&&◌, ◌||◌, List, ◌∷◌, ℕ, ◌*◌, ◌^◌, eqb, leb, ltb, get_or}
use Rattle.std.specs.Int.Bits.{bit_and}
use Rattle.ground.specs.First.{first}
use Rattle.ground.specs.Members.{is_in}
use Rattle.theory.specs.FarSides.{holds, inner, own}

-- S and R are neither nested nor disjoint: what both hold is not all of either, and not nothing
abbrev pub crosses : ℕ → ℕ → Bool
crosses S R = not (eqb (bit_and S R) S || (eqb (bit_and S R) R || eqb (bit_and S R) 0))

-- a far side that is 0 or does not exceed the row before, which is b; or holds image 0; or holds one beyond n
abbrev pub bad_side : ℕ → ℕ → ℕ → Bool
bad_side n b S = leb S b || (holds S 0 || leb (2 ^ n) S)

-- a cost above twice the limit, or 0 in an inner row
abbrev pub bad_cost : ℕ → ℕ → ℕ → ℕ → Bool
bad_cost L n S c = ltb (2 * L) c || (inner n S && eqb c 0)

-- the far side of the row before row k; 0 before the first, which only 0 does not exceed
abbrev pub row_before : List ℕ → ℕ → ℕ
row_before l k = get_or (0 ∷ l) k 0

-- the first row that row k crosses, of those before it; k where there is none
abbrev pub first_crossed : List ℕ → ℕ → ℕ
first_crossed l k = first (λ j. crosses (get_or l j 0) (get_or l k 0)) k

-- row k is bad: its far side, its cost, or an earlier row that it crosses
unfoldable pub bad_row : ℕ → ℕ → List ℕ → List ℕ → ℕ → Bool
bad_row L n l v k =
    bad_side n (row_before l k) (get_or l k 0) || (bad_cost L n (get_or l k 0) (get_or v k 0) || ltb (first_crossed l k) k)

-- the own link of image i is missing
unfoldable pub missing : ℕ → List ℕ → ℕ → Bool
missing n l i = not (is_in (own n i) l)
