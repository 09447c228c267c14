-- The way from a side to its upper side, and from an image to its first side. Assumes nothing.
use Rattle.std.specs.Prelude.{List, ◌≡◌, ℕ, ◌+◌, ◌<◌, ◌≤◌, get_or, length}
use Rattle.std.specs.Int.Bits.{bit_and}
use Rattle.ground.specs.Bits.{bit}

-- j is the first place from i on whose side contains s, and m, the number of sides, where there is none
pub record FirstContaining (B : List ℕ) (m s i j : ℕ) : Type 0 where
  pub from : i ≤ j
  pub few : j ≤ m
  pub none : (l : ℕ) → i ≤ l → l < j → bit_and s (get_or B l 0) ≡ s → ⊥
  pub holds : j < m → bit_and s (get_or B j 0) ≡ s

-- j is the first place from i on that holds z, and m where there is none
pub record Holder (B : List ℕ) (m z i j : ℕ) : Type 0 where
  pub from : i ≤ j
  pub few : j ≤ m
  pub none : (l : ℕ) → i ≤ l → l < j → bit (get_or B l 0) z ≡ 1 → ⊥
  pub holds : j < m → bit (get_or B j 0) z ≡ 1

-- each of the images of m that are not in `rest` has the place j
pub record PlacesMarked (m j rest : ℕ) (links links' : List ℕ) : Type 0 where
  pub room : length links' ≡ length links
  pub here : (z : ℕ) → z < 64 → bit m z ≡ 1 → bit rest z ≡ 0 → get_or links' (128 + z) 0 ≡ j
  pub there : (z : ℕ) → z < 64 → bit m z ≡ 0 → get_or links' (128 + z) 0 ≡ get_or links (128 + z) 0
  pub front : (i : ℕ) → i < 128 → get_or links' i 0 ≡ get_or links i 0

-- the first i sides have gone by: each has its upper side, the first later one that contains it; each image seen its first side, and
-- no other image is in one of them
pub record Linking (B : List ℕ) (m i seen : ℕ) (links : List ℕ) : Type 0 where
  pub room : length links ≡ 192
  pub upper : (j : ℕ) → j < i → FirstContaining B m (get_or B j 0) (j + 1) (get_or links j 0)
  pub first : (z : ℕ) → z < 64 → bit seen z ≡ 1 → Holder B m z 0 (get_or links (128 + z) 0)
  pub none : (z l : ℕ) → bit seen z ≡ 0 → l < i → bit (get_or B l 0) z ≡ 1 → ⊥

-- all did
pub record Linked (B : List ℕ) (m : ℕ) (links : List ℕ) : Type 0 where
  pub room : length links ≡ 192
  pub upper : (j : ℕ) → j < m → FirstContaining B m (get_or B j 0) (j + 1) (get_or links j 0)
  pub first : (z j : ℕ) → z < 64 → j < m → bit (get_or B j 0) z ≡ 1 → Holder B m z 0 (get_or links (128 + z) 0)
