-- What refusal 21 is worth: it is given exactly where the three-point condition does not hold, and shows the first three images, in
-- ascending order, that fail it. Assumes nothing.
use Rattle.std.specs.Prelude.{true, ◌⊎◌, ◌≡◌, ℕ, ◌+◌, ◌<◌, ◌≤◌}
use Rattle.std.proofs.Math.Bool.{false}
use Rattle.ground.specs.Refusals.{refusal}
use Rattle.ground.specs.declared.Refusal.{Refusal}
use Rattle.leveling.specs.ThreePoint.{fails, three}

-- i, j, k stand before a, b, c in dictionary order
abbrev pub Before : ℕ → ℕ → ℕ → ℕ → ℕ → ℕ → Type 0
Before i j k a b c = (i < a) ⊎ ((i ≡ a) × ((j < b) ⊎ ((j ≡ b) × (k < c))))

-- r is refusal 21 with i ≤ j ≤ k, which fail, and no three before them does
pub record FirstFailing (d : ℕ → ℕ → ℕ) (n : ℕ) (r : Refusal) : Type 0 where
  pub i : ℕ
  pub j : ℕ
  pub k : ℕ
  pub sorted : (i ≤ j) × (j ≤ k) × (k < n)
  pub is : r ≡ refusal 21 (i + 1) (j + 1) (k + 1) 0
  pub fail : fails d (three i j k) ≡ true
  pub first : (a b c : ℕ) → a ≤ b → b ≤ c → c < n → Before a b c i j k → fails d (three a b c) ≡ false
