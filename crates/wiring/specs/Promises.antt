-- What refusal 7 is worth: it is given exactly where the four-point condition does not hold, and shows the first four images, in
-- ascending order, that fail it. Assumes nothing.
use Rattle.std.specs.Prelude.{true, ◌⊎◌, ◌≡◌, ℕ, ◌+◌, ◌<◌, ◌≤◌}
use Rattle.std.proofs.Math.Bool.{false}
use Rattle.ground.specs.Refusals.{refusal}
use Rattle.ground.specs.declared.Refusal.{Refusal}
use Rattle.theory.specs.FourPoint.{fails, four}

-- i, j, k, l stand before a, b, c, e in dictionary order
abbrev pub Before : ℕ → ℕ → ℕ → ℕ → ℕ → ℕ → ℕ → ℕ → Type 0
Before i j k l a b c e = (i < a) ⊎ ((i ≡ a) × ((j < b) ⊎ ((j ≡ b) × ((k < c) ⊎ ((k ≡ c) × (l < e))))))

-- r is refusal 7 with i ≤ j ≤ k ≤ l, which fail, and no four before them does
pub record FirstFailing (d : ℕ → ℕ → ℕ) (n : ℕ) (r : Refusal) : Type 0 where
  pub i : ℕ
  pub j : ℕ
  pub k : ℕ
  pub l : ℕ
  pub sorted : (i ≤ j) × (j ≤ k) × (k ≤ l) × (l < n)
  pub is : r ≡ refusal 7 (i + 1) (j + 1) (k + 1) (l + 1)
  pub fail : fails d (four i j k l) ≡ true
  pub first : (a b c e : ℕ) → a ≤ b → b ≤ c → c ≤ e → e < n → Before a b c e i j k l → fails d (four a b c e) ≡ false
