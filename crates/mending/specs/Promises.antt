-- What a mended link table is worth. Assumes nothing.
use Rattle.std.specs.Prelude.{List, ◌≡◌, ℕ}
use Rattle.theory.specs.Demands.{OneTree}
use Rattle.theory.specs.LinkTables.{Row}
use Rattle.theory.specs.Readings.{Exact, measured}
use Rattle.theory.specs.Tables.{WellFormed}
use Rattle.mending.specs.Leaving.{leave, mend}

-- T is the exact reading of the cost table d of m + 1 images, and image x leaves
pub record Mended (L : ℕ) (d : ℕ → ℕ → ℕ) (m x : ℕ) (T : List Row) : Type 0 where
  -- the smaller cost table is well-formed, and the mended rows are its exact reading: path costs twice the entries, and one tree
  pub formed : WellFormed L (leave x d) m
  pub exact : Exact L (leave x d) m (mend m x T)
  pub one : OneTree L m (mend m x T)
  -- only one exists, so they are the rows that its exact reading answers
  pub answer : mend m x T ≡ measured L (leave x d) m
