-- What image k brings to the rows over the first k images: places of values, in a list of values. Assumes nothing.
use Rattle.std.specs.Prelude.{List, ◌≡◌, ℕ, ◌*◌, ◌+◌, ◌-◌, ◌<◌, ◌^◌, get_or, length}
use Rattle.ground.specs.Bits.{bit}
use Rattle.theory.specs.OneMore.{brought_fast}

-- the value of each row stands at its place; image k is where `add` puts it, 0 for outside, 2 ^ k for inside
pub record Valued (L : ℕ) (d : ℕ → ℕ → ℕ) (k add : ℕ) (f : List ℕ) (count : ℕ) (slots best : List ℕ) : Type 0 where
  pub place : (i : ℕ) → i < count → get_or slots i 0 < 192
  pub value : (i : ℕ) → i < count → get_or best (get_or slots i 0) 0 - 2 * L ≡ brought_fast L d k (bit (add + get_or f i 0)) - 2 * L

-- both ways, and the value of image k's own link at place r
pub record AllBrought (L : ℕ) (d : ℕ → ℕ → ℕ) (k : ℕ) (f : List ℕ) (count r : ℕ) (outs ins best : List ℕ) : Type 0 where
  pub outside : Valued L d k 0 f count outs best
  pub inside : Valued L d k (2 ^ k) f count ins best
  pub own-place : r < 192
  pub own : get_or best r 0 ≡ brought_fast L d k (bit (2 ^ k))
  pub room : length best ≡ 192
