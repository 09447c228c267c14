-- The checks of a link table over n images, in document 01's words and order: N rows, l the far sides, v the doubled costs. Assumes nothing.
use Rattle.std.specs.Prelude.{not, List, ℕ, ◌*◌, ◌-◌, eqb, length}
use Rattle.ground.specs.Refusals.{outside, refusal, refuse_if, ◌then◌, Check}
use Rattle.theory.specs.Checks.{images_check}
use Rattle.bad_rows.specs.BadRows.{bad_row, missing}
use Rattle.links.specs.FirstChecks.{first_check}

-- 1, 10: n is 3 to 64, and the row count N is n to 2 n - 3
abbrev pub count_checks : ℕ → ℕ → Check
count_checks n N = images_check n then refuse_if (outside n (2 * n - 3) N) (refusal 10 N 0 0 0)

-- 2: each slice is exactly as long as the row count
abbrev pub length_checks : ℕ → List ℕ → List ℕ → Check
length_checks N l v =
    refuse_if (not (eqb (length l) N)) (refusal 2 0 0 0 0) then
    refuse_if (not (eqb (length v) N)) (refusal 2 0 0 0 0)

-- 1, 10, 2
abbrev pub size_checks : ℕ → ℕ → List ℕ → List ℕ → Check
size_checks n N l v = count_checks n N then length_checks N l v

-- 12, 13: no bad row, and no own link missing
abbrev pub row_checks : ℕ → ℕ → List ℕ → List ℕ → Check
row_checks L n l v = first_check 12 (bad_row L n l v) (length l) then first_check 13 (missing n l) n
