-- The two sides of a link as sets of images, one with image 0 and one without; and what of a table with levels stands on one side of a
-- link: a group or one image, and the next larger group. Images are counted from 0. Assumes nothing.
use Rattle.std.specs.Prelude.{Bool, false, true, ◌⊎◌, ◌≡◌, ℕ, ◌-◌, ◌<◌, ◌^◌}
use Rattle.theory.specs.FarSides.{Within, holds}
use Rattle.levels.specs.Groups.{Group}

-- the other images
abbrev pub rest : ℕ → ℕ → ℕ
rest n S = 2 ^ n - 1 - S

-- the link that has S on one side, by its far side: the other images where S has image 0, and S where it has not
abbrev pub without : Bool → ℕ → ℕ → ℕ
without true n S = rest n S
without false n S = S

abbrev pub link_of : ℕ → ℕ → ℕ
link_of n S = without (holds S 0) n S

-- a group, or one image
abbrev pub Part : (ℕ → ℕ → ℕ) → ℕ → ℕ → Type 0
Part d n S = Group d n S ⊎ ((i : ℕ) × (i < n) × (S ≡ 2 ^ i))

-- P is the smallest group that contains S and more
pub record NextGroup (d : ℕ → ℕ → ℕ) (n S P : ℕ) : Type 0 where
  pub group : Group d n P
  pub contains : Within n S P
  pub more : P ≡ S → ⊥
  pub least : (R : ℕ) → Group d n R → Within n S R → (R ≡ S → ⊥) → Within n P R
