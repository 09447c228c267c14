-- The next image to the left as the code finds it: a bit for each image says whether it is placed. Assumes nothing.
use Rattle.std.specs.Prelude.{cond, ◌&&◌, List, ◌≡◌, ℕ, eqb}
use Rattle.ground.specs.Bits.{bit}
use Rattle.ground.specs.Folds.{fold}
use Rattle.ground.specs.Members.{occurs}
use Rattle.theory.specs.Order.{better}

-- the better of w and b, and b where w is placed
unfoldable pub turn_next : (ℕ → ℕ → ℕ) → ℕ → ℕ → ℕ → ℕ → ℕ → ℕ
turn_next d f x placed w b = cond (eqb (bit placed w) 0 && better d f x w b) w b

-- of the images below n that are not placed, the best, the lowest number on a tie
unfoldable pub next_left : (ℕ → ℕ → ℕ) → ℕ → ℕ → ℕ → ℕ → ℕ
next_left d f x placed n = fold (turn_next d f x placed) n f

-- ## The placed images as bits

-- the bits of placed are the images of l
pub record Marks (placed : ℕ) (l : List ℕ) : Type 0 where
  pub told : (u : ℕ) → eqb (bit placed u) 0 ≡ eqb (occurs u l) 0
