-- Settled examples of Newick text, computed. Assumes nothing.
use Rattle.std.specs.Prelude.{[], ◌∷◌, refl, ◌≡◌, Ok, Err}
use Rattle.std.specs.Int.Count.{ones, ones_in}
use Rattle.ground.specs.First.{first}
use Rattle.ground.specs.Refusals.{refusal}
use Rattle.theory.specs.Tables.{limit}
use Rattle.text.specs.Decimal.{decimal, digits}
use Rattle.text.specs.Words.{bytes_of}
use Rattle.newick_text.specs.Trees.{listed}
use Rattle.newick_text.specs.Tables.{insert, names, rows, side, sorted, table_of}
use Rattle.newick_text.specs.Order.{fall_from}
use Rattle.newick_text.specs.LinkTrees.{grown, newick, part}
use Rattle.newick_text.specs.Bytes.{run, step}
use Rattle.newick_text.specs.Ends.{lived}
use Rattle.newick_text.specs.Reading.{read_checks, tree_in}
unfoldable pub use Rattle.newick_text.specs.Examples.{rows_g, text_g}

-- it is written as document 02's text, and this is read as it
pub example_g_lem : (newick rows_g ≡ text_g) × (read_checks limit text_g 5 ≡ Ok tt) × (table_of (tree_in text_g) ≡ rows_g)
unfolding bytes_of rows_g text_g grown part side listed decimal digits run step lived names rows sorted insert fall_from first ones ones_in
example_g_lem = (refl, refl, refl)

-- example E has an inner row
pub example_e_lem : newick ((2, 2) ∷ (4, 2) ∷ (8, 2) ∷ (12, 4) ∷ (14, 2) ∷ [])
    ≡ bytes_of "(1:2,2:2,(3:2,4:2):4);"
unfolding bytes_of grown part side listed decimal digits first
example_e_lem = refl

-- 18 at the first impossible byte: the empty text, 2 in the first place, a second digit there, a leading zero
pub example_places : (read_checks limit [] 5 ≡ Err (refusal 18 1 0 0 0))
    × (read_checks limit (bytes_of "(2") 5 ≡ Err (refusal 18 2 0 0 0))
    × (read_checks limit (bytes_of "(10:") 5 ≡ Err (refusal 18 3 0 0 0))
    × (read_checks limit (bytes_of "(1:00") 5 ≡ Err (refusal 18 5 0 0 0))
unfolding bytes_of run step lived
example_places = (refl, refl, refl, refl)
