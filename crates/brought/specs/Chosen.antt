-- The sides that are asked for the rows over the first k images, and where the values of the rows will stand. Assumes nothing.
use Rattle.std.specs.Prelude.{Bool, false, not, true, ◌&&◌, List, ◌≡◌, suc, zero, ℕ, ◌*◌, ◌+◌, ◌-◌, ◌<◌, ◌≤◌, eqb, get_or, length}
use Rattle.std.specs.Int.Bits.{bit_and}
use Rattle.std.specs.Int.Count.{count_trailing_zeros}
use Rattle.ground.specs.Counts.{one_if}
use Rattle.theory.specs.FarSides.{FarSide, Nested}
use Rattle.upper_sides.specs.Chains.{pick}

-- some images each, ascending, and few
pub record Rising (f : List ℕ) (count : ℕ) : Type 0 where
  pub some : (i : ℕ) → i < count → 0 < get_or f i 0
  pub up : (i j : ℕ) → i < j → j < count → get_or f i 0 < get_or f j 0
  pub few : count ≤ 123
  pub room : count ≤ length f

-- the first rows of a reading of k images: far sides, nested or disjoint
pub record Rowed (k : ℕ) (f : List ℕ) (count : ℕ) : Type 0 where
  pub rising : Rising f count
  pub far : (i : ℕ) → i < count → FarSide k (get_or f i 0)
  pub nested : (i j : ℕ) → i < count → j < count → Nested k (get_or f i 0) (get_or f j 0)

-- one image alone
abbrev pub one_image : ℕ → Bool
one_image A = eqb (bit_and A (A - 1)) 0

-- whether a side is stored, and where its value will stand: an own link by its image, a stored side behind place 64, and 63 for none
abbrev pub is_stored : Bool → ℕ → Bool
is_stored live A = live && not (one_image A)

abbrev pub slot_of : Bool → ℕ → ℕ → ℕ
slot_of live A place = pick (one_image A) (count_trailing_zeros 64 A) (pick live (64 + place) 63)

-- ## Row r has the side a r, which is asked where live r

-- how many of the first n rows have theirs stored
unfoldable pub stored_of : (ℕ → ℕ) → (ℕ → Bool) → ℕ → ℕ
stored_of a live zero = zero
stored_of a live (suc n) = stored_of a live n + one_if (is_stored (live n) (a n))

-- where the value of the side A stands, m sides being stored
pub data Slot (m : ℕ) (B : List ℕ) (live : Bool) (A x : ℕ) : Type 0 where
  by_image : x ≡ count_trailing_zeros 64 A → one_image A ≡ true → Slot m B live A x
  stored : (j : ℕ) → x ≡ 64 + j → j < m → get_or B j 0 ≡ A → Slot m B live A x
  nowhere : x ≡ 63 → live ≡ false → Slot m B live A x

-- the rows from p up to q have gone by, and their sides stand from place low up to place m, ascending, each with the value 4 L
pub record SidesStored (L : ℕ) (a : ℕ → ℕ) (live : ℕ → Bool) (p q low m : ℕ) (B slots best : List ℕ) : Type 0 where
  pub order : low ≤ m
  pub from : (j : ℕ) → low ≤ j → j < m → (r : ℕ) × (p ≤ r) × (r < q) × (get_or B j 0 ≡ a r) × (live r ≡ true)
  pub up : (j l : ℕ) → low ≤ j → j < l → l < m → get_or B j 0 < get_or B l 0
  pub slot : (r : ℕ) → p ≤ r → r < q → Slot m B (live r) (a r) (get_or slots r 0)
  pub caps : (j : ℕ) → low ≤ j → j < m → get_or best (64 + j) 0 ≡ 4 * L
