-- What `scan` says of a text. Assumes nothing.
use Rattle.std.specs.Prelude.{false, true, List, ◌≡◌, ℕ, length, take, Ok, Err, Result}
use Rattle.theory.specs.LinkTables.{Row}
use Rattle.tree.specs.LocalRows.{rows_in}
use Rattle.newick_text.specs.Trees.{Siblings}
use Rattle.newick_text.specs.Tables.{names}
use Rattle.newick_text.specs.Bytes.{run}
use Rattle.newick_text.specs.States.{start}
use Rattle.newick_text.specs.Ends.{is_done, lived}
use Rattle.newick_text.specs.Noting.{fallen, marked, noted}
use Rattle.newick_text.specs.Reading.{tree_in}
use Rattle.newick_notes.specs.declared.Noted.{Noted}

-- what `scan` answers: what a whole text says, or how many bytes begin a text of the profile
abbrev pub Scanned : Type 0
Scanned = Result Noted ℕ

-- n images were named, those in m, the lowest fall is at p, and the first 128 of the rows T stand in front of the two arrays
pub record Told (n m p : ℕ) (T : List Row) (w : Noted) (f v : List ℕ) : Type 0 where
  pub names : w.names ≡ n
  pub marked : w.marked ≡ m
  pub fallen : w.fallen ≡ p
  pub rows : rows_in f v w.rows ≡ take 128 T
  pub far-size : length f ≡ 128
  pub cost-size : length v ≡ 128

-- of a whole tree
abbrev pub ToldTree : Siblings → Noted → List ℕ → List ℕ → Type 0
ToldTree g w f v = Told (length (names g)) (marked 0 g) (fallen 0 2 0 g) (noted 0 g) w f v

-- f and v are the two arrays as the call returns
abbrev pub Says : List ℕ → Scanned → List ℕ → List ℕ → Type 0
Says t (Err k) f v = (is_done (run start t) ≡ false) × (k ≡ lived start t) × (length f ≡ 128) × (length v ≡ 128)
Says t (Ok w) f v = (is_done (run start t) ≡ true) × ToldTree (tree_in t) w f v
