-- Rows renamed, dropped and joined in two arrays, as the code does it. Assumes nothing.
use Rattle.std.specs.Prelude.{List, [], ◌∷◌, ◌≡◌, suc, ℕ, ◌<◌, ◌^◌, ◌≤◌, get_or, length}
use Rattle.theory.specs.LinkTables.{Row, all_costs}
use Rattle.tree.specs.LocalRows.{rows_in}
use Rattle.rows.specs.Putting.{Ascends, Behind}
use Rattle.rows.specs.Rows.{put_all}
use Rattle.mending.specs.Leaving.{grouped, mend}

-- the rows of T, in the first `count` places of two arrays of 128: more than any link table has rows
pub record Kept (T : List Row) (f v : List ℕ) (count : ℕ) : Type 0 where
  pub is : rows_in f v count ≡ T
  pub far-room : length f ≡ 128
  pub cost-room : length v ≡ 128
  pub few : count ≤ 128

-- rows that can be mended: far sides of m + 1 images, and costs that fit 32 bits together
pub record Mendable (m : ℕ) (f v : List ℕ) (count : ℕ) : Type 0 where
  pub sides : {i : ℕ} → i < count → get_or f i 0 < 2 ^ suc m
  pub spent : all_costs (rows_in f v count) < 2 ^ 32
  pub kept : Kept (rows_in f v count) f v count

-- the row S, c put among the others unless a group of it is empty: r rows, which ascend
pub record KeepRow (f v : List ℕ) (count S c r : ℕ) (f' v' : List ℕ) : Type 0 where
  pub rows : rows_in f' v' r ≡ put_all (grouped ((S, c) ∷ [])) (rows_in f v count)
  pub ascends : Ascends f' r
  pub behind : Behind f v count f' v'
  pub far-size : length f' ≡ length f
  pub cost-size : length v' ≡ length v

-- in the place of the old rows, which stood in g and w: the first k of them are renamed and joined, and the others stand where they stood
pub record Joining (m x : ℕ) (g w : List ℕ) (k r : ℕ) (f v : List ℕ) : Type 0 where
  pub rows : rows_in f v r ≡ mend m x (rows_in g w k)
  pub ascends : Ascends f r
  pub far-left : {j : ℕ} → k ≤ j → get_or f j 0 ≡ get_or g j 0
  pub cost-left : {j : ℕ} → k ≤ j → get_or v j 0 ≡ get_or w j 0
  pub far-room : length f ≡ 128
  pub cost-room : length v ≡ 128
