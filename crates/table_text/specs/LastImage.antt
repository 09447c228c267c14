-- The images that can be last in an order from 1. Images are 1 to n here, as in a listing. Assumes nothing.
use Rattle.std.specs.Prelude.{ℕ, ◌≤◌}

-- one of n images, other than image 1
pub record Other (n last : ℕ) : Type 0 where
  pub low : 2 ≤ last
  pub high : last ≤ n
