-- The scan for refusal 7, level by level. Assumes nothing.
use Rattle.std.specs.Prelude.{ℕ, ◌+◌, ◌-◌}
use Rattle.ground.specs.Lowest.{check_all}
use Rattle.ground.specs.Refusals.{refusal, refuse_if, Check}
use Rattle.theory.specs.FourPoint.{fails, four}

-- the check of one four
abbrev pub four_check : (ℕ → ℕ → ℕ) → ℕ → ℕ → ℕ → ℕ → Check
four_check d i j k l = refuse_if (fails d (four i j k l)) (refusal 7 (i + 1) (j + 1) (k + 1) (l + 1))

module _ (d : ℕ → ℕ → ℕ) (n : ℕ) where
  -- those that begin with i, j, k; with i, j; with i
  unfoldable pub last_scan : ℕ → ℕ → ℕ → Check
  last_scan i j k = check_all (four_check d i j k) k (n - k)

  unfoldable pub third_scan : ℕ → ℕ → Check
  third_scan i j = check_all (last_scan i j) j (n - j)

  unfoldable pub second_scan : ℕ → Check
  second_scan i = check_all (third_scan i) i (n - i)
