-- Whether a set is a group, as a test that computes: a set is a largest one exactly when it is all the images that are near to it (Laws/Groups).
-- Assumes nothing.
use Rattle.std.specs.Prelude.{Bool, not, ◌&&◌, ◌||◌, ℕ, eqb, leb}
use Rattle.std.specs.Int.Count.{ones}
use Rattle.ground.specs.Bits.{bit}
use Rattle.ground.specs.Counts.{one_if}
use Rattle.theory.specs.FarSides.{holds}
use Rattle.leveling.specs.Below.{every, some}

-- image k has an entry of at most h with every image of S
abbrev pub near : (ℕ → ℕ → ℕ) → ℕ → ℕ → ℕ → ℕ → Bool
near d n h S k = every n (λ i. not (holds S i) || leb (d i k) h)

-- S is all the images that are near to it
abbrev pub is_largest : (ℕ → ℕ → ℕ) → ℕ → ℕ → ℕ → Bool
is_largest d n h S = every n (λ k. eqb (bit S k) (one_if (near d n h S k)))

abbrev pub is_group : (ℕ → ℕ → ℕ) → ℕ → ℕ → Bool
is_group d n S = leb 2 (ones S) && some n (λ i. some n (λ j. is_largest d n (d i j) S))
