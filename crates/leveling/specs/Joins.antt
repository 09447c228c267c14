-- The quick way to see that a table has levels, image by image: of the images before j one is nearest to j, and to each other one j is as far
-- as that one is, or as that one is from j where this is more. Document 02 does not speak of it; Laws/Joins says that it is the same.
-- Assumes nothing.
use Rattle.std.specs.Prelude.{Bool, cond, max, ℕ, ◌<◌, ◌≤◌, eqb, ltb}
use Rattle.leveling.specs.Below.{every}

-- the nearer of p and i to image j, p on a tie
unfoldable pub nearer : (ℕ → ℕ → ℕ) → ℕ → ℕ → ℕ → ℕ
nearer d j p i = cond (ltb (d j i) (d j p)) i p

-- of the images before m, p is one to which image j is nearest
pub record Nearest (d : ℕ → ℕ → ℕ) (j m p : ℕ) : Type 0 where
  pub before : p < m
  pub least : (i : ℕ) → i < m → d j p ≤ d j i

-- image j is as far from i as p is, or as far as from p where this is more
unfoldable pub joins_at : (ℕ → ℕ → ℕ) → ℕ → ℕ → ℕ → Bool
joins_at d j p i = eqb (d j i) (max (d p i) (d j p))

-- from every image before it
unfoldable pub joins : (ℕ → ℕ → ℕ) → ℕ → ℕ → Bool
joins d j p = every j (joins_at d j p)
