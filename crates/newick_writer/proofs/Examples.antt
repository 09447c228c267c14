-- Examples A and H of document 01 as Newick text, and whole calls on example G, computed. Assumes nothing.
use Rattle.std.specs.Prelude.{[], ◌++◌, ◌∷◌, refl, ◌≡◌, replicate, Ok, Err}
use Rattle.std.specs.Int.Count.{ones, ones_in}
use Rattle.ground.specs.First.{first}
use Rattle.ground.specs.Refusals.{refusal}
use Rattle.bad_rows.specs.BadRows.{bad_row, missing}
use Rattle.text.specs.Decimal.{decimal, digits}
use Rattle.text.specs.Words.{bytes_of}
use Rattle.newick_text.specs.Examples.{text_g}
use Rattle.newick_text.specs.Tables.{side}
use Rattle.newick_text.specs.LinkTrees.{grown, newick, part}
use Rattle.newick_text.specs.Trees.{listed}
pub use Rattle.newick_writer.specs.Examples.{call_g}

pub example_a_lem : newick ((2, 1) ∷ (4, 1) ∷ (6, 1) ∷ [])
    ≡ bytes_of "(1:1,2:1,3:1);"
unfolding bytes_of grown part side listed decimal digits first
example_a_lem = refl

pub example_h_lem : newick
    ((2, 36) ∷ (4, 2) ∷ (8, 2) ∷ (16, 14) ∷ (24, 42) ∷ (32, 48) ∷ (64, 12) ∷ (96, 18) ∷ (120, 32) ∷ (122, 12) ∷ (126, 8) ∷ [])
    ≡ bytes_of "(1:8,3:2,(2:36,((4:2,5:14):42,(6:48,7:12):18):32):12);"
unfolding bytes_of grown part side listed decimal digits first
example_h_lem = refl

-- 18 bytes are enough, and of 20 the last two are left as they were
pub written_g : (call_g 8 2 18 ≡ record { answer = Ok 18; places = text_g })
    × (call_g 8 2 20 ≡ record { answer = Ok 18; places = text_g ++ (7 ∷ 7 ∷ []) })
unfolding bytes_of text_g grown part side listed decimal digits first bad_row missing ones ones_in
written_g = (refl, refl)

-- 17 are not, and none is altered
pub refused_g : call_g 8 2 17 ≡ record { answer = Err (refusal 3 0 0 0 0); places = replicate 17 7 }
unfolding grown part side listed decimal digits first bad_row missing ones ones_in
refused_g = refl

-- 12 comes before 13, and both before 3: a cost above 16,000,000 in row 4, and images 2 and 3 instead of image 4 in row 3
pub first_refusals_g : ((call_g 6 16000001 17).answer ≡ Err (refusal 12 4 0 0 0)) × ((call_g 6 2 17).answer ≡ Err (refusal 13 4 0 0 0))
unfolding grown part side listed decimal digits first bad_row missing ones ones_in
first_refusals_g = (refl, refl)
