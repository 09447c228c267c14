-- The two lists that are made of the rows: with image k outside a row has its far side on the other side of k, with image k inside
-- what it does not hold. Assumes nothing.
use Rattle.std.specs.Prelude.{Bool, List, ◌≡◌, ℕ, ◌*◌, ◌+◌, ◌-◌, ◌<◌, ◌^◌, get_or, length, set}
use Rattle.ground.specs.Counts.{one_if}
use Rattle.brought.specs.Chosen.{SidesStored, slot_of, stored_of, is_stored}
use Rattle.near_images.specs.Near.{goes_in, goes_out}

-- image k outside
abbrev pub out_side : List ℕ → ℕ → ℕ
out_side f r = get_or f r 0

abbrev pub out_live : ℕ → ℕ → List ℕ → ℕ → Bool
out_live b N f r = goes_out b N (get_or f r 0)

-- image k inside
abbrev pub in_side : ℕ → List ℕ → ℕ → ℕ
in_side k f r = 2 ^ k - 1 - get_or f r 0

abbrev pub in_live : ℕ → List ℕ → ℕ → Bool
in_live N f r = goes_in N (get_or f r 0)

-- the side s was stored behind the m sides so far, and at place i of the slots is where its value will stand
pub record SidePut (L : ℕ) (live : Bool) (s m i : ℕ) (B slots best : List ℕ) (r : ℕ) (B' slots' best' : List ℕ) : Type 0 where
  pub counted : r ≡ m + one_if (is_stored live s)
  pub side : B' ≡ set B m s
  pub slot : slots' ≡ set slots i (slot_of live s m)
  pub value : best' ≡ set best (64 + m) (4 * L)

-- room for sides, places and values
pub record Room (B slots best : List ℕ) : Type 0 where
  pub sides : length B ≡ 128
  pub places : length slots ≡ 128
  pub values : length best ≡ 192

-- the first m sides and their values are as they were
pub record Same (m : ℕ) (B best B' best' : List ℕ) : Type 0 where
  pub sides : (j : ℕ) → j < m → get_or B' j 0 ≡ get_or B j 0
  pub values : (j : ℕ) → j < m → get_or best' (64 + j) 0 ≡ get_or best (64 + j) 0

-- the first i rows with image k outside
pub record Outs (L b N : ℕ) (f : List ℕ) (i m : ℕ) (B outs best : List ℕ) : Type 0 where
  pub room : Room B outs best
  pub counted : m ≡ stored_of (out_side f) (out_live b N f) i
  pub made : SidesStored L (out_side f) (out_live b N f) 0 i 0 m B outs best

-- the rows from i on with image k inside, behind the low sides that stood there
pub record Ins (L k N : ℕ) (f : List ℕ) (i count low m : ℕ) (B₀ best₀ B ins best : List ℕ) : Type 0 where
  pub room : Room B ins best
  pub counted : m + stored_of (in_side k f) (in_live N f) i ≡ low + stored_of (in_side k f) (in_live N f) count
  pub made : SidesStored L (in_side k f) (in_live N f) i count low m B ins best
  pub same : Same low B₀ best₀ B best
