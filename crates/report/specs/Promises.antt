-- What the promise of the report is worth: every answer is 3 with nothing altered, or the figures of the tables read, each equal to its
-- definition over them, whether the bytes ended, 500 tables were read, or a table was refused. Assumes nothing.
use Rattle.ground.specs.Refusals.{Check}
use Rattle.std.proofs.lemmas.Bool.{false≢true}
use Rattle.std.specs.Prelude.{not, true, List, ◌⊎◌, refl, ◌≡◌, ℕ, length, Ok, Err}
use Rattle.std.proofs.Common.{inl, inr, ap}
use borrow.Table.Steps.{cases}
use Rattle.ground.specs.Filters.{Each}
use Rattle.ground.specs.Laws.Filters.{filter-mem}
use Rattle.ground.specs.Laws.Outcomes.{answer_once}
use Rattle.theory.specs.FourPoint.{FourPoint}
use Rattle.theory.specs.LinkTables.{Row}
use Rattle.theory.specs.Readings.{Exact}
use Rattle.theory.specs.Tables.{cost, limit}
use Rattle.wiring.specs.Check.{wiring_check}
use Rattle.wiring.proofs.Promises.{wiring_passed}
use Rattle.tree.specs.Exact.{Wired}
use Rattle.tree.proofs.Laws.Exact.{exact_rows_lem}
use Rattle.report.specs.Laws.Call.{room-passed}
use Rattle.report.specs.Laws.Follows.{reading}
use Rattle.report.specs.Laws.Reported.{reported}
use Rattle.report.specs.Outcome.{LeftReport, ReportOutcome, report_outcome, short, Report}
use Rattle.figures.specs.Reading.{read_all}
use Rattle.report.specs.Reported.{Reported, TooShort}
use Rattle.counting.specs.Standing.{Sound}
use Rattle.figures.specs.Tables.{Table, accepted, apart, is_accepted, passes, tree_of}

pub report_left : (bytes f t s : List ℕ) (r : Report) (f' t' s' : List ℕ) → LeftReport (report_outcome limit bytes f t s) r f' t' s'
    → TooShort f t s r f' t' s' ⊎ Reported bytes f t s r f' t' s'
report_left bytes f t s r f' t' s' l =
    cases (short (length f) (length t) (length s))
    (λ e.
    let m = rw e at l in
    inl (record {
      refused = rw e;
      stop = ap (λ (x : Report). x.stop) m.answered;
      number = ap (λ (x : Report). x.table) m.answered;
      far_same = m.far-sides;
      tree_same = m.tree_numbers;
      sum_same = m.cost_sums;
    }))
    (λ e.
    let m = rw e at l in
    let q = reported bytes f t s (read_all limit bytes) (reading bytes) (room-passed f t s (rw e)) in
    inr (rw (m.answered, m.far-sides, m.tree_numbers, m.cost_sums) q))

-- ## The trees

-- the tree of an accepted table is its exact reading, the only one
pub accepted_exact : (ts : List Table) → Sound limit ts
    → Each (accepted ts) (λ t. Exact limit (cost t.costs t.images) t.images (tree_of limit t)
    × ((T : List Row) → Exact limit (cost t.costs t.images) t.images T → T ≡ tree_of limit t))
unfolding is_accepted
accepted_exact ts s t m =
    let q = filter-mem is_accepted ts t m in
    let c = s.formed t q.1 in
    let d = cost t.costs t.images in
    let w : Wired limit t.images t.costs =
    record { table = c; condition = (wiring_passed limit d t.images c.formed).0 (passed (wiring_check d t.images) q.0) } in
    ((exact_rows_lem limit t.images t.costs w (tree_of limit t)).1 refl, λ T e. (exact_rows_lem limit t.images t.costs w T).0 e)
  where
    passed : (c : Check) → passes c ≡ true → c ≡ Ok tt
    passed (Ok tt) e = refl
    passed (Err r) e = absurd (false≢true e)

-- one that gets 7 has no wiring
pub apart_seven : (ts : List Table) → Sound limit ts → Each (apart ts) (λ t. FourPoint (cost t.costs t.images) t.images → ⊥)
unfolding is_accepted
apart_seven ts s t m f =
    let q = filter-mem (λ t. not (is_accepted t)) ts t m in
    let c = s.formed t q.1 in
    let p = (wiring_passed limit (cost t.costs t.images) t.images c.formed).1 f in
    false≢true (rw p at q.0)

-- no second answer, and no second content of the three slices, meets a promise
pub left_report_once : {A : Type 0} {o : ReportOutcome A} {r q : A} {f t s f' t' s' : List ℕ} → LeftReport o r f t s → LeftReport o q f' t' s'
    → (r ≡ q) × (f ≡ f') × (t ≡ t') × (s ≡ s')
left_report_once a b = (
  answer_once a.answered b.answered,
  answer_once a.far-sides b.far-sides,
  answer_once a.tree_numbers b.tree_numbers,
  answer_once a.cost_sums b.cost_sums,
)
