-- Which rows over the first k images can stay once image k is there: one look at its nearest image and at the images near that one.
-- Assumes nothing.
use Rattle.std.specs.Prelude.{Bool, ◌||◌, ◌≡◌, max, ℕ, ◌+◌, ◌<◌, ◌^◌, ◌≤◌, eqb, ltb}
use Rattle.std.specs.Int.Bits.{bit_and}
use Rattle.ground.specs.Bits.{bit}
use Rattle.ground.specs.Counts.{one_if}

-- of the images 1 to m - 1, b has the least d(k,y) - d(0,y)
pub record Closest (d : ℕ → ℕ → ℕ) (k m b : ℕ) : Type 0 where
  pub some : 1 ≤ b
  pub below : b < max 2 m
  pub least : (y : ℕ) → 1 ≤ y → y < m → d k b + d 0 y ≤ d k y + d 0 b

-- b itself, and the images y but 0 with d(k,0) + d(b,y) < d(k,b) + d(0,y)
abbrev pub near_image : (ℕ → ℕ → ℕ) → ℕ → ℕ → ℕ → Bool
near_image d k b y = eqb y b || ltb (d k 0 + d b y) (d k b + d 0 y)

-- those below m, as a number
pub record NearImages (d : ℕ → ℕ → ℕ) (k b m N : ℕ) : Type 0 where
  pub fits : N < 2 ^ m
  pub zero : bit N 0 ≡ 0
  pub bits : (y : ℕ) → 1 ≤ y → y < m → bit N y ≡ one_if (near_image d k b y)

-- a row that may stay with image k outside: it does not hold b, or it holds near images alone
abbrev pub goes_out : ℕ → ℕ → ℕ → Bool
goes_out b N S = eqb (bit S b) 0 || eqb (bit_and S N) S

-- with image k inside: it holds every near image
abbrev pub goes_in : ℕ → ℕ → Bool
goes_in N S = eqb (bit_and S N) N
