-- Where the code stands: rows in local arrays, of which it is known whose exact reading they are. Assumes nothing.
use Rattle.std.specs.Prelude.{List, ◌≡◌, ℕ, ◌≤◌}
use Rattle.theory.specs.LinkTables.{Row}
use Rattle.theory.specs.Readings.{Exact}
use Rattle.theory.specs.Tables.{WellFormed}
use Rattle.tree.specs.LocalRows.{rows_in}
use Rattle.mending.specs.Mending.{Kept}
use Rattle.leaving.specs.declared.Replayed.{Replayed}
use Rattle.leaving.specs.Replay.{Standing}

-- T is the exact reading of some well-formed cost table of 3 to 64 images
pub record Sound (L n : ℕ) (T : List Row) : Type 0 where
  pub some : 3 ≤ n
  pub few : n ≤ 64
  pub table : ℕ → ℕ → ℕ
  pub formed : WellFormed L table n
  pub exact : Exact L table n T

-- such rows, kept in two arrays of 128 places
pub record SoundRows (L n : ℕ) (f v : List ℕ) (count : ℕ) : Type 0 where
  pub sound : Sound L n (rows_in f v count)
  pub kept : Kept (rows_in f v count) f v count

-- the answer r says where p stands, and its rows stand in f and v
pub record Stands (p : Standing) (r : Replayed) (f v : List ℕ) : Type 0 where
  pub left : r.images ≡ p.images
  pub number : r.event ≡ p.event
  pub refusal : r.stop ≡ p.stop
  pub kept : Kept p.rows f v r.rows
