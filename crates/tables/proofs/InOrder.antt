-- The checks of a cost table by their numbers: 1, 2 and 4, 5, 6, 20. Assumes nothing.
use Rattle.std.specs.Prelude.{not, List, [], ◌∷◌, ℕ, ◌*◌, ◌+◌, eqb, ltb, length}
use Rattle.std.proofs.Common.{arith}
use Rattle.ground.specs.InOrder.{InOrder, Only}
use Rattle.ground.specs.Laws.InOrder.{all_only, join-order, refuse_order, refuse_if_only, step-order}
use Rattle.ground.specs.Lowest.{check_all}
use Rattle.ground.specs.Refusals.{refusal}
use Rattle.ground.specs.Steps.{Step, ◌by◌}
use Rattle.theory.specs.Checks.{images_check}
use Rattle.theory.specs.Laws.InOrder.{images-order}
use Rattle.tables.specs.Checks.{costs_check, diagonal_check, entries_check, entry_check, least_check, length_check, mirror_check, off_diagonal_check, size_check, symmetry_check, zero_check}
use Rattle.tables.proofs.Laws.Pairs.{pairs_only}
pub use Rattle.tables.specs.InOrder.{size_steps, costs_steps}

-- 2
pub length-order : (n : ℕ) (t : List ℕ) → InOrder (2 by length_check n t ∷ []) (length_check n t)
length-order n t = refuse_order (not (eqb (length t) (n * n))) (refusal 2 0 0 0 0) (omega arith)

pub size-order : (n : ℕ) (t : List ℕ) → InOrder (size_steps n t) (size_check n t)
size-order n t = join-order (images-order n) (length-order n t)

-- 4
pub entry_only : (L : ℕ) (d : ℕ → ℕ → ℕ) (i j : ℕ) → Only 4 (entry_check L d i j)
entry_only L d i j = refuse_if_only (ltb L (d i j)) (refusal 4 (i + 1) (j + 1) 0 0)

-- 20
pub least_only : (K : ℕ) (d : ℕ → ℕ → ℕ) (i j : ℕ) → Only 20 (least_check K d i j)
least_only K d i j = refuse_if_only (ltb (d i j) K) (refusal 20 (i + 1) (j + 1) 0 0)

pub off_diagonal_order : (d : ℕ → ℕ → ℕ) (n : ℕ) → InOrder (20 by off_diagonal_check d n ∷ []) (off_diagonal_check d n)
off_diagonal_order d n = step-order 20 (off_diagonal_check d n) (omega arith) (pairs_only (least_check 1 d) n 20 (least_only 1 d))

pub costs-order : (L : ℕ) (d : ℕ → ℕ → ℕ) (n : ℕ) → InOrder (costs_steps L d n) (costs_check L d n)
costs-order L d n =
    join-order
    (step-order 4 (entries_check L d n) (omega arith)
    (all_only 4 (λ i. check_all (entry_check L d i) 0 n) 0 n (λ i. all_only 4 (entry_check L d i) 0 n (entry_only L d i))))
    (join-order
    (step-order 5 (diagonal_check d n) (omega arith) (all_only 5 (zero_check d) 0 n (λ i. refuse_if_only (ltb 0 (d i i)) (refusal 5 (i + 1) 0 0 0))))
    (join-order
    (step-order 6 (symmetry_check d n) (omega arith)
    (pairs_only (mirror_check d) n 6 (λ i j. refuse_if_only (not (eqb (d i j) (d j i))) (refusal 6 (i + 1) (j + 1) 0 0))))
    (off_diagonal_order d n)))
