-- Settled examples of reading Newick text, computed. Assumes nothing.
use Rattle.std.specs.Prelude.{List, [], ◌∷◌, refl, ◌≡◌, ℕ, replicate, Ok, Err}
use Rattle.std.specs.Int.Count.{ones, ones_in}
use Rattle.ground.specs.First.{first}
use Rattle.ground.specs.Refusals.{refusal}
use Rattle.text.specs.Decimal.{decimal, digits}
use Rattle.text.specs.Words.{bytes_of}
use Rattle.newick_text.specs.Bytes.{run, step}
use Rattle.newick_text.specs.Ends.{lived}
use Rattle.newick_text.specs.Examples.{text_g}
use Rattle.newick_text.specs.Order.{fall_from}
use Rattle.newick_text.specs.Tables.{insert, names, rows, side, sorted}
use Rattle.newick_text.specs.Trees.{listed}
use Rattle.newick_reader.specs.Outcomes.{read_outcome, NewickTree}

-- what reading into so many places answers
abbrev answer_in : ℕ → List ℕ → NewickTree
answer_in k t = (read_outcome t (replicate k 0) (replicate k 0)).answer

-- example G is read as its rows; 2n - 3 places are asked
pub example_g_lem : (read_outcome text_g (replicate 5 0) (replicate 5 7)
    ≡ record { answer = Ok (record { n = 4; count = 4 }); far_list = 2 ∷ 4 ∷ 8 ∷ 14 ∷ 0 ∷ []; cost_list = 2 ∷ 2 ∷ 2 ∷ 2 ∷ 7 ∷ [] })
    × (answer_in 4 text_g ≡ Err (refusal 3 0 0 0 0))
unfolding bytes_of decimal digits fall_from first insert lived listed names ones ones_in rows run side sorted step text_g
example_g_lem = (refl, refl)

-- the text ends too early, and 18 comes before 3
pub example_18 : (answer_in 0 (bytes_of "(1:2,") ≡ Err (refusal 18 6 0 0 0))
unfolding bytes_of decimal digits fall_from first insert lived listed names ones ones_in rows run side sorted step
example_18 = refl

-- a second 1 and an image above n leave image 3 unnamed, which is refused before a bad cost
pub example_13 : (answer_in 3 (bytes_of "(1:0,2:0,1:0);") ≡ Err (refusal 13 3 0 0 0))
    × (answer_in 3 (bytes_of "(1:0,2:0,4:0);") ≡ Err (refusal 13 3 0 0 0))
    × (answer_in 3 (bytes_of "(1:0,2:99999999,4:0);") ≡ Err (refusal 13 3 0 0 0))
unfolding bytes_of decimal digits fall_from first insert lived listed names ones ones_in rows run side sorted step
example_13 = (refl, refl, refl)

-- the row is that of the table, and 12 comes before 22
pub example_12 : (answer_in 3 (bytes_of "(1:0,2:0,3:16000001);")
    ≡ Err (refusal 12 2 0 0 0))
    × (answer_in 3 (bytes_of "(1:0,3:0,2:99999999);") ≡ Err (refusal 12 1 0 0 0))
unfolding bytes_of decimal digits fall_from first insert lived listed names ones ones_in rows run side sorted step
example_12 = (refl, refl)

-- the place of the bracket, which begins first, and not of the 4 in it
pub example_22 : (answer_in 9 (bytes_of "(1:0,6:0,((5:0,4:0):1,3:0):1,2:0);") ≡ Err (refusal 22 10 0 0 0))
unfolding bytes_of decimal digits fall_from first insert lived listed names ones ones_in rows run side sorted step
example_22 = refl
