-- The scan for refusal 21, level by level. Assumes nothing.
use Rattle.std.specs.Prelude.{ℕ, ◌+◌, ◌-◌}
use Rattle.ground.specs.Lowest.{check_all}
use Rattle.ground.specs.Refusals.{refusal, refuse_if, Check}
use Rattle.leveling.specs.ThreePoint.{fails, three}

-- the check of one three
abbrev pub three_check : (ℕ → ℕ → ℕ) → ℕ → ℕ → ℕ → Check
three_check d i j k = refuse_if (fails d (three i j k)) (refusal 21 (i + 1) (j + 1) (k + 1) 0)

module _ (d : ℕ → ℕ → ℕ) (n : ℕ) where
  -- those that begin with i, j; with i
  unfoldable pub last_scan : ℕ → ℕ → Check
  last_scan i j = check_all (three_check d i j) j (n - j)

  unfoldable pub second_scan : ℕ → Check
  second_scan i = check_all (last_scan i) i (n - i)
