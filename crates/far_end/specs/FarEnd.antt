-- The far end, in document 02's words: the other image with the greatest cost from image 1, the lowest on a tie. Images are counted from 0:
-- image 1 of document 02 is image 0 here. Assumes nothing.
use Rattle.std.specs.Prelude.{cond, ◌≡◌, suc, zero, ℕ, ◌+◌, ◌-◌, ◌<◌, ◌≤◌, ltb}

-- x is the far end of n images: another one than image 0; no other costs more from image 0; of equals it is the lowest
pub record IsFarEnd (d : ℕ → ℕ → ℕ) (n x : ℕ) : Type 0 where
  pub other : 0 < x
  pub image : x < n
  pub greatest : (w : ℕ) → 0 < w → w < n → d 0 w ≤ d 0 x
  pub lowest : (w : ℕ) → 0 < w → w < n → d 0 w ≡ d 0 x → x ≤ w

-- the farther of w and x from image 0, and x where both cost the same
abbrev pub farther_of : (ℕ → ℕ → ℕ) → ℕ → ℕ → ℕ
farther_of d w x = cond (ltb (d 0 x) (d 0 w)) w x

-- the farthest of image 1 and the m images after it: a later one only where it costs more
unfoldable pub farthest : (ℕ → ℕ → ℕ) → ℕ → ℕ
farthest d zero = 1
farthest d (suc m) = farther_of d (m + 2) (farthest d m)

-- the far end of n images
abbrev pub far_end : (ℕ → ℕ → ℕ) → ℕ → ℕ
far_end d n = farthest d (n - 2)
