-- Timings that are a little off: where no entry of a second table differs by more than D, the index of no division moves by more than 4 D,
-- below 0 too. Assumes nothing.
use Rattle.std.specs.Prelude.{ℕ, ◌*◌, pos, ℤ, ◌+ℤ◌, ◌≤ℤ◌}

-- of what the call answered for both tables, v and w
pub record Moved (D : ℕ) (v w : ℤ) : Type 0 where
  pub up : v ≤ℤ (w +ℤ pos (4 * D))
  pub down : w ≤ℤ (v +ℤ pos (4 * D))
