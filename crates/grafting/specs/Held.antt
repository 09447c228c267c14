-- Path and table as they are held in local arrays once place p is grafted; the order stands in l. Assumes nothing.
use Rattle.std.specs.Prelude.{List, ◌≡◌, ℕ, ◌-◌, length}
use Rattle.tree.specs.LocalRows.{rows_in}
use Rattle.recognition.specs.Recognition.{placed}
use Rattle.recognition.specs.Seats.{seat}
use Rattle.rows.specs.Putting.{Ascends}
use Rattle.rows.specs.Rows.{costly}
use Rattle.grafting.specs.Grafting.{grafted, own_rows, path_to, table_to}

-- the m rows of the path, in arrays of 64 places; those without cost are left out
pub record PathHeld (d : ℕ → ℕ → ℕ) (l : List ℕ) (p m : ℕ) (s w : List ℕ) : Type 0 where
  pub rows : rows_in s w m ≡ costly (path_to (placed d (seat l)) (seat l) p)
  pub side-room : length s ≡ 64
  pub length-room : length w ≡ 64

-- the rows of the table, in arrays of 192 places
pub record TableHeld (d : ℕ → ℕ → ℕ) (l : List ℕ) (n p count : ℕ) (f v : List ℕ) : Type 0 where
  pub rows : rows_in f v count ≡ table_to (placed d (seat l)) (seat l) n p
  pub ascends : Ascends f count
  pub far-room : length f ≡ 192
  pub cost-room : length v ≡ 192

-- before any graft: the own links
pub record OwnTable (n : ℕ) (f₀ v₀ f v : List ℕ) : Type 0 where
  pub rows : rows_in f v n ≡ own_rows n
  pub ascends : Ascends f n
  pub far-size : length f ≡ length f₀
  pub cost-size : length v ≡ length v₀

-- all images are grafted, and the path is closed
pub record TableGrafted (d : ℕ → ℕ → ℕ) (l : List ℕ) (n r : ℕ) (f v : List ℕ) : Type 0 where
  pub rows : rows_in f v r ≡ grafted (placed d (seat l)) (seat l) n (n - 1)
  pub far-room : length f ≡ 192
  pub cost-room : length v ≡ 192
