-- The walk up the chain of an image z. Assumes nothing.
use Rattle.std.specs.Prelude.{List, ◌≡◌, ℕ, ◌*◌, ◌+◌, ◌-◌, ◌<◌, get_or, length}
use Rattle.ground.specs.Bits.{bit}
use Rattle.upper_sides.specs.Chains.{depth_at, gap_on, held_at, near_on}

-- three numbers are kept of a side j that holds z, in the order of the chain: the least over it, what it adds beside the side before
-- it, and its place
pub record StepKept (L : ℕ) (d : ℕ → ℕ → ℕ) (k z : ℕ) (B : List ℕ) (j : ℕ) (steps : List ℕ) : Type 0 where
  pub near : get_or steps (3 * depth_at B z j) 0 ≡ near_on L d k z (get_or B j 0)
  pub apart : get_or steps (3 * depth_at B z j + 1) 0 ≡ gap_on L d k z (get_or B j 0 - held_at B z j)
  pub place : get_or steps (3 * depth_at B z j + 2) 0 ≡ j

-- past the first i sides
pub record Climbed (L : ℕ) (d : ℕ → ℕ → ℕ) (k z : ℕ) (B : List ℕ) (i depth : ℕ) (steps : List ℕ) : Type 0 where
  pub room : length steps ≡ 384
  pub deep : depth ≡ depth_at B z i
  pub kept : (j : ℕ) → j < i → bit (get_or B j 0) z ≡ 1 → StepKept L d k z B j steps

-- with the side held there, and the least over it
pub record Up (L : ℕ) (d : ℕ → ℕ → ℕ) (k z : ℕ) (B : List ℕ) (i held near depth : ℕ) (steps : List ℕ) : Type 0 where
  pub held_is : held ≡ held_at B z i
  pub near_is : near ≡ near_on L d k z (held_at B z i)
  pub climbed : Climbed L d k z B i depth steps
