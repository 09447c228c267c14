-- What stays of a path, as the code does it: the rows stand in two arrays, s and w. Assumes nothing.
use Rattle.std.specs.Prelude.{List, [], ◌++◌, ◌∷◌, ◌≡◌, ℕ, ◌+◌, ◌<◌, ◌^◌, ◌≤◌, get_or, length}
use Rattle.tree.specs.LocalRows.{rows_in}
use Rattle.rows.specs.Rows.{costly}
use Rattle.path_cuts.specs.Cuts.{kept}

-- each row has a cost, and the images to add fit each far side
pub record KeepRoom (add m : ℕ) (s w : List ℕ) : Type 0 where
  pub for_side : m ≤ length s
  pub for_length : m ≤ length w
  pub drawn : {i : ℕ} → i < m → 0 < get_or w i 0
  pub fits : {i : ℕ} → i < m → add + get_or s i 0 < 2 ^ 64

-- what lies up to the height h stays, where it has a cost: s and w before, s' and w' after
pub record KeepRows (h add m : ℕ) (s w : List ℕ) (r : ℕ) (s' w' : List ℕ) : Type 0 where
  pub few : r ≤ m
  pub rows : rows_in s' w' r ≡ costly (kept h add (rows_in s w m))
  pub side-size : length s' ≡ length s
  pub length-size : length w' ≡ length w

-- one row more at the end, where it has a cost
pub record AddRow (s w : List ℕ) (m S c r : ℕ) (s' w' : List ℕ) : Type 0 where
  pub rows : rows_in s' w' r ≡ rows_in s w m ++ costly ((S, c) ∷ [])
  pub side-size : length s' ≡ length s
  pub length-size : length w' ≡ length w
