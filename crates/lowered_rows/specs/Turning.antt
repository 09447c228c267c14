-- One turn of the loop over the old rows: each is stored, and the count goes on where it stays. Assumes nothing.
use Rattle.std.specs.Prelude.{List, ◌≡◌, suc, ℕ, ◌+◌, set}
use Rattle.ground.specs.Counts.{one_if}
use Rattle.theory.specs.OneMore.{stays}

-- the row of the far side S with the cost x stored at place `at` of the rows so far, and the count gone on where it stays
pub record Turned (k S x at : ℕ) (f v : List ℕ) (r : ℕ) (f' v' : List ℕ) : Type 0 where
  pub counted : r ≡ at + one_if (stays (suc k) (S, x))
  pub far_stored : f' ≡ set f at S
  pub cost_stored : v' ≡ set v at x
