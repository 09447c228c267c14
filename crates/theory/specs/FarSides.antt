-- Divisions of n images in two groups, in document 01's words. A division is named by its far side, the group without image 0:
-- bit i of the number is 1 for each image i in it.
use Rattle.std.specs.Prelude.{Bool, false, true, ◌&&◌, List, [], map, ◌++◌, ◌∷◌, ◌⊎◌, ◌≡◌, suc, zero, ℕ, ◌+◌, ◌-◌, ◌<◌, ◌^◌, eqb, leb}
use Rattle.std.specs.Int.Count.{ones}
use Rattle.ground.specs.Bits.{bit}

-- not empty, no image beyond n, without image 0
pub record FarSide (n S : ℕ) : Type 0 where
  pub some : 0 < S
  pub fits : S < 2 ^ n
  pub near : bit S 0 ≡ 0

-- all of them, ascending
abbrev pub sides : ℕ → List ℕ
sides zero = []
sides (suc zero) = []
sides (suc (suc k)) = sides (suc k) ++ (2 ^ suc k ∷ map (λ S. 2 ^ suc k + S) (sides (suc k)))

-- S holds image i
abbrev pub holds : ℕ → ℕ → Bool
holds S i = eqb (bit S i) 1

-- inner: both groups have two or more images, counted as the ones in the far side: 2 to n - 2
abbrev pub inner : ℕ → ℕ → Bool
inner n S = leb 2 (ones S) && leb (ones S + 2) n

-- the own link of image i: i alone, and for image 0 all the others
abbrev pub own : ℕ → ℕ → ℕ
own n zero = 2 ^ n - 2
own n (suc i) = 2 ^ suc i

-- nested or disjoint
abbrev pub Within : ℕ → ℕ → ℕ → Type 0
Within n S R = (i : ℕ) → i < n → holds S i ≡ true → holds R i ≡ true

abbrev pub Disjoint : ℕ → ℕ → ℕ → Type 0
Disjoint n S R = (i : ℕ) → i < n → holds S i ≡ true → holds R i ≡ false

abbrev pub Nested : ℕ → ℕ → ℕ → Type 0
Nested n S R = Within n S R ⊎ (Within n R S ⊎ Disjoint n S R)
