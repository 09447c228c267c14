-- Two searches whose tests agree find the same. Assumes nothing.
use Rattle.std.specs.Prelude.{Bool, List, refl, ◌≡◌, suc, zero, ℕ, ◌+◌, ◌<◌, ◌≤◌, ltb, get_or, length}
use Rattle.std.proofs.Common.{ap, ap₂, sym, ◌∙◌, arith}
use borrow.Table.Steps.{cases}
use Rattle.ground.specs.First.{first}
use Rattle.ground.specs.Refusals.{refusal, refuse_if}
use Rattle.theory.specs.LinkTables.{costs, fars}
use Rattle.theory.specs.Tables.{limit}
use Rattle.tree.specs.Laws.LocalRows.{rows_in-length}
use Rattle.tree.specs.LocalRows.{rows_in}
use Rattle.bad_rows.specs.BadRows.{bad_cost}
use Rattle.links.specs.FirstChecks.{first_check}
use Rattle.newick_text.specs.Reading.{costs_check}
use Rattle.newick_table.specs.Laws.Collecting.{cost-at, far_at_lem}
use Rattle.newick_table.specs.Notes.{bad_at}

pub first_same : (p q : ℕ → Bool) (n : ℕ) → ((k : ℕ) → k < n → p k ≡ q k) → first p n ≡ first q n
unfolding first
first_same p q zero h = refl
first_same p q (suc n) h =
    let ih = first_same (λ k. p (suc k)) (λ k. q (suc k)) n (λ k l. h (suc k) (omega arith)) in
    rw (h 0 (omega arith)) (cases (q 0) (λ e. rw e refl) (λ e. rw e (ap suc ih)))

pub check_same : (m : ℕ) (p q : ℕ → Bool) (n : ℕ) → ((k : ℕ) → k < n → p k ≡ q k) → first_check m p n ≡ first_check m q n
check_same m p q n h = ap (λ (x : ℕ). refuse_if (ltb x n) (refusal m (x + 1) 0 0 0)) (first_same p q n h)

-- 12 of the rows of two arrays
pub costs_checked : (n m : ℕ) (f v : List ℕ) → m ≤ length f → m ≤ length v → first_check 12 (bad_at n f v) m ≡ costs_check limit n (rows_in f v m)
unfolding bad_at
costs_checked n m f v a b =
    let T = rows_in f v m in
    check_same 12 (bad_at n f v) (λ k. bad_cost limit n (get_or (fars T) k 0) (get_or (costs T) k 0)) m
    (λ k l. ap₂ (bad_cost limit n) (sym (far_at_lem f v m k a l)) (sym (cost-at f v m k b l)))
    ∙ ap (first_check 12 (λ k. bad_cost limit n (get_or (fars T) k 0) (get_or (costs T) k 0))) (sym (rows_in-length f v m))
