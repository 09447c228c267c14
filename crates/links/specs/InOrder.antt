-- The checks of a link table by their numbers: 1, 10, then 2, and 12, 13. Assumes nothing.
use Rattle.std.specs.Prelude.{not, List, [], ◌++◌, ◌∷◌, ℕ, ◌*◌, ◌+◌, ◌-◌, eqb, ltb, length}
use Rattle.std.proofs.Common.{arith}
use Rattle.ground.specs.First.{first}
use Rattle.ground.specs.InOrder.{InOrder}
use Rattle.ground.specs.Laws.InOrder.{join-order, refuse_order, refuse_if_only, step-order, then_only}
use Rattle.ground.specs.Refusals.{outside, refusal, refuse_if}
use Rattle.ground.specs.Steps.{Step, ◌by◌}
use Rattle.theory.specs.Checks.{images_check}
use Rattle.theory.specs.Laws.InOrder.{images-order}
use Rattle.bad_rows.specs.BadRows.{bad_row, missing}
use Rattle.links.specs.Checks.{count_checks, length_checks, row_checks, size_checks}
use Rattle.links.specs.FirstChecks.{first_check}

-- 1, 10
abbrev pub count_steps : ℕ → ℕ → List Step
count_steps n N = 1 by images_check n ∷ 10 by refuse_if (outside n (2 * n - 3) N) (refusal 10 N 0 0 0) ∷ []

pub count-order : (n N : ℕ) → InOrder (count_steps n N) (count_checks n N)
count-order n N = join-order (images-order n) (refuse_order (outside n (2 * n - 3) N) (refusal 10 N 0 0 0) (omega arith))

-- 1, 10, 2
abbrev pub size_steps : ℕ → ℕ → List ℕ → List ℕ → List Step
size_steps n N l v = count_steps n N ++ (2 by length_checks N l v ∷ [])

pub size-order : (n N : ℕ) (l v : List ℕ) → InOrder (size_steps n N l v) (size_checks n N l v)
size-order n N l v =
    join-order (count-order n N)
    (step-order 2 (length_checks N l v) (omega arith)
    (then_only 2 (refuse_if (not (eqb (length l) N)) (refusal 2 0 0 0 0)) (refuse_if (not (eqb (length v) N)) (refusal 2 0 0 0 0))
    (refuse_if_only (not (eqb (length l) N)) (refusal 2 0 0 0 0)) (refuse_if_only (not (eqb (length v) N)) (refusal 2 0 0 0 0))))

-- 12, 13
abbrev pub row_steps : ℕ → ℕ → List ℕ → List ℕ → List Step
row_steps L n l v = 12 by first_check 12 (bad_row L n l v) (length l) ∷ 13 by first_check 13 (missing n l) n ∷ []

pub row-order : (L n : ℕ) (l v : List ℕ) → InOrder (row_steps L n l v) (row_checks L n l v)
row-order L n l v =
    join-order
    (refuse_order (ltb (first (bad_row L n l v) (length l)) (length l)) (refusal 12 (first (bad_row L n l v) (length l) + 1) 0 0 0) (omega arith))
    (refuse_order (ltb (first (missing n l) n) n) (refusal 13 (first (missing n l) n + 1) 0 0 0) (omega arith))
