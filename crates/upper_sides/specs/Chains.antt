-- Sides in a list such that those that hold an image z grow, and what is least over a side and beside it. A side is a number whose
-- ones are the images on the other side of k, the new image. Assumes nothing.
use Rattle.std.specs.Prelude.{Bool, false, true, List, ◌≡◌, suc, zero, ℕ, ◌*◌, ◌+◌, ◌-◌, ◌<◌, ◌^◌, ◌≤◌, eqb, get_or, length}
use Rattle.ground.specs.Bits.{bit}
use Rattle.ground.specs.Least.{least_on}

-- how much farther y is from p than from q, with L added
abbrev pub ahead : ℕ → (ℕ → ℕ → ℕ) → ℕ → ℕ → ℕ → ℕ
ahead L d p q y = L + d p y - d q y

-- the least over the images y of the side B: k against z
unfoldable pub near_on : ℕ → (ℕ → ℕ → ℕ) → ℕ → ℕ → ℕ → ℕ
near_on L d k z B = least_on k (bit B) 1 (4 * L) (ahead L d k z)

-- the least over the images that are not in B, k among them: z against k
unfoldable pub apart_on : ℕ → (ℕ → ℕ → ℕ) → ℕ → ℕ → ℕ → ℕ
apart_on L d k z B = least_on (suc k) (bit B) 0 (4 * L) (ahead L d z k)

-- the same over a part m of the first k images
unfoldable pub gap_on : ℕ → (ℕ → ℕ → ℕ) → ℕ → ℕ → ℕ → ℕ
gap_on L d k z m = least_on k (bit m) 1 (4 * L) (ahead L d z k)

-- ## Chains

abbrev pub pick : Bool → ℕ → ℕ → ℕ
pick true x y = x
pick false x y = y

-- the last of the first i sides of B that hold z, and z alone before any
unfoldable pub held_at : List ℕ → ℕ → ℕ → ℕ
held_at B z zero = 2 ^ z
held_at B z (suc i) = pick (eqb (bit (get_or B i 0) z) 1) (get_or B i 0) (held_at B z i)

-- how many of the first i sides hold z
unfoldable pub depth_at : List ℕ → ℕ → ℕ → ℕ
depth_at B z zero = zero
depth_at B z (suc i) = pick (eqb (bit (get_or B i 0) z) 1) (suc (depth_at B z i)) (depth_at B z i)

-- the first m sides are over the first k images, and of two that hold one image the later holds all of the earlier
pub record Chained (k : ℕ) (B : List ℕ) (m : ℕ) : Type 0 where
  pub fits : (i : ℕ) → i < m → get_or B i 0 < 2 ^ k
  pub grows : (i j z y : ℕ) → i < j → j < m → bit (get_or B i 0) z ≡ 1 → bit (get_or B j 0) z ≡ 1 → bit (get_or B i 0) y ≡ 1 → bit (get_or B j 0) y ≡ 1

-- a chain for each image, and all the first k images as the last of the m sides
pub record Family (k : ℕ) (B : List ℕ) (m : ℕ) : Type 0 where
  pub room : length B ≡ 128
  pub some : 0 < m
  pub few : m ≤ 128
  pub chained : Chained k B m
  pub whole : (i : ℕ) → suc i ≡ m → get_or B i 0 ≡ 2 ^ k - 1
