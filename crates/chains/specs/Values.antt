-- What image k brings to each side and each own link: the least over the images z that had their walk. Values of own links stand at
-- their image, those of sides from place 64 on, and at place 63 nothing. Assumes nothing.
use Rattle.std.specs.Prelude.{List, ◌≡◌, ℕ, ◌*◌, ◌+◌, ◌<◌, ◌^◌, get_or, length}
use Rattle.ground.specs.Bits.{bit}
use Rattle.ground.specs.Least.{least_on}
use Rattle.theory.specs.OneMore.{brought_fast, brought_side}

-- the images below z took their turn
pub record Least (L : ℕ) (d : ℕ → ℕ → ℕ) (k : ℕ) (B : List ℕ) (m z : ℕ) (best : List ℕ) : Type 0 where
  pub sides : (j : ℕ) → j < m → get_or best (64 + j) 0 ≡ least_on z (bit (get_or B j 0)) 1 (4 * L) (brought_side L d k (bit (get_or B j 0)))
  pub owns : (y : ℕ) → y < z → get_or best y 0 ≡ brought_fast L d k (bit (2 ^ y))
  pub none : get_or best 63 0 ≡ 0
  pub room : length best ≡ 192

-- all did
pub record Brought (L : ℕ) (d : ℕ → ℕ → ℕ) (k : ℕ) (B : List ℕ) (m : ℕ) (best : List ℕ) : Type 0 where
  pub sides : (j : ℕ) → j < m → get_or best (64 + j) 0 ≡ brought_fast L d k (bit (get_or B j 0))
  pub owns : (y : ℕ) → y < k → get_or best y 0 ≡ brought_fast L d k (bit (2 ^ y))
  pub none : get_or best 63 0 ≡ 0
  pub room : length best ≡ 192
