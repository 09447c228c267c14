-- The checks of a cost table that is to be written under the limit of a form. Assumes nothing.
use Rattle.std.specs.Prelude.{List, ℕ, ◌+◌, ltb}
use Rattle.ground.specs.Refusals.{refusal, refuse_if, ◌then◌, Check}
use Rattle.theory.specs.Tables.{cost}
use Rattle.tables.specs.Checks.{costs_check, size_check}
use Rattle.tables.specs.Pairs.{pairs_check}

-- 17: an entry above the form's limit L, at the lowest row and column with row below column
abbrev pub large_check : ℕ → (ℕ → ℕ → ℕ) → ℕ → ℕ → Check
large_check L d i j = refuse_if (ltb L (d i j)) (refusal 17 (i + 1) (j + 1) 0 0)

abbrev pub fit_check : ℕ → (ℕ → ℕ → ℕ) → ℕ → Check
fit_check L d n = pairs_check (large_check L d) n

-- 1, 2, 4, 5, 6, 20 under the limit L
abbrev pub table_checks : ℕ → ℕ → List ℕ → Check
table_checks L n t = size_check n t then costs_check L (cost t n) n
