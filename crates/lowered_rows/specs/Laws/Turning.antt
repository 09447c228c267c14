-- What a turn of the loop over the old rows leaves. Assumes nothing.
use Rattle.std.specs.Prelude.{List, [], ◌++◌, ◌∷◌, ◌≡◌, min, suc, zero, ℕ, ◌*◌, ◌+◌, ◌-◌, ◌<◌, ◌≤◌, eqb, get_or, length, set}
use Rattle.std.proofs.Common.{append-nil, ap, sym, ◌∙◌, arith, length-append, eqb-true}
use Rattle.std.proofs.lemmas.Bool.{eqb-false}
use borrow.Table.Steps.{cases}
use Rattle.ground.specs.Filters.{filter, keep}
use Rattle.ground.specs.Laws.Filters.{filter-append}
use Rattle.theory.specs.OneMore.{stays}
use Rattle.theory.specs.LinkTables.{Row}
use Rattle.lowered_rows.specs.LocalRows.{rows_in}
use Rattle.lowered_rows.specs.Laws.LocalRows.{stored_before, stored_more}
use Rattle.lowered_rows.specs.Turning.{Turned}
use Rattle.lowered_rows.specs.Putting.{lowered_in}

-- one row more that stays or not
pub filter_more : (k : ℕ) (T : List Row) (r : Row) → filter (stays (suc k)) (T ++ (r ∷ [])) ≡ filter (stays (suc k)) T ++ keep (stays (suc k) r) r []
filter_more k T r = filter-append (stays (suc k)) T (r ∷ [])

-- more rows that go by are no fewer that stay
pub lowered-length : (L k add : ℕ) (f v slots best : List ℕ) (i n : ℕ) → i ≤ n
    → length (filter (stays (suc k)) (lowered_in L add f v slots best i)) ≤ length (filter (stays (suc k)) (lowered_in L add f v slots best n))
unfolding lowered_in
lowered-length L k add f v slots best i zero h = let e : i ≡ 0 = omega arith in rw e (omega arith)
lowered-length L k add f v slots best i (suc n) h =
    cases (eqb i (suc n)) (λ e. rw (eqb-true i (suc n) e) (omega arith))
    (λ e. rw (filter_more k (lowered_in L add f v slots best n) (add + get_or f n 0, min (get_or v n 0) (get_or best (get_or slots n 0) 0 - 2 * L)), length-append)
    (omega (arith, lowered-length L k add f v slots best i n (omega (arith, eqb-false i (suc n) e)))))

pub turned : (k S x at : ℕ) (f v : List ℕ) (r : ℕ) (f' v' : List ℕ) → at < length f → at < length v
    → Turned k S x at f v r f' v' → rows_in f' v' r ≡ rows_in f v at ++ keep (stays (suc k) (S, x)) (S, x) []
turned k S x at f v r f' v' h l t =
    rw (t.counted, t.far_stored, t.cost_stored)
    (cases (stays (suc k) (S, x))
    (λ e. rw e (stored_more f v at S x h l))
    (λ e. rw e (ap (rows_in (set f at S) (set v at x)) (omega arith) ∙ stored_before f v at S x ∙ sym (append-nil (rows_in f v at)))))
