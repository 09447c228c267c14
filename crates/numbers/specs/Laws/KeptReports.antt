-- The answer of a term report crosses and nothing is lost, the figures of the tables before a refused one included. Assumes nothing.
use Rattle.report.specs.Outcome.{Report, seen_as}
use Rattle.report.proofs.Promises.{seen_once}
use Rattle.report.specs.declared.TermReport.{TermReport}
use Rattle.ground.specs.Refusals.{Check}
use Rattle.std.specs.Prelude.{cond, refl, ◌≡◌, ℕ, eqb, Ok, Err}
use Rattle.std.proofs.Common.{ap, ap₂, sym, ◌∙◌, ne_eqb}
use Rattle.ground.specs.declared.Refusal.{Refusal}
use Rattle.figures.specs.declared.Figures.{Figures}
use Rattle.numbers.specs.Reports.{of_end, of_report}
use Rattle.numbers.specs.declared.KemotuikiHead.{KemotuikiHead}
use Rattle.numbers.specs.declared.KemotuikiReport.{KemotuikiReport}

-- how a report ends: no refusal is numbered 0, and where none was the table's number is 0
pub record Ends (x : Report) : Type 0 where
  pub numbered : (q : Refusal) → x.stop ≡ Err q → q.number ≡ 0 → ⊥
  pub none : x.stop ≡ Ok tt → x.table ≡ 0

-- the answer read back from the numbers
stop_of : KemotuikiHead → Check
stop_of h = cond (eqb h.number 0) (Ok tt) (Err (record { number = h.number; a = h.a; b = h.b; c = h.c; d = h.d }))

figures_in : KemotuikiReport → Figures
figures_in k = record {
  images = k.images;
  tables = k.tables;
  accepted = k.accepted;
  apart = k.apart;
  sides = k.sides;
  pairs = k.pairs;
  count_sum = k.count_sum;
  largest_count = k.largest_count;
  used = k.used;
}

report_in : KemotuikiReport → Report
report_in k = record { figures = figures_in k; table = k.head.table; stop = stop_of k.head }

read_back : (x : Report) → Ends x → report_in (of_report x) ≡ x
unfolding stop_of figures_in report_in
read_back x m = go x.stop refl
  where
    go : (c : Check) → x.stop ≡ c → report_in (of_report x) ≡ x
    go (Ok tt) e =
        let table : (of_end x.table x.stop).table ≡ x.table = rw e (sym (m.none e)) in
        let stop : stop_of (of_end x.table x.stop) ≡ x.stop = rw e refl in
        ap₂ (λ (k : ℕ) (c : Check). record { figures = x.figures; table = k; stop = c }) table stop
    go (Err q) e =
        let table : (of_end x.table x.stop).table ≡ x.table = rw e refl in
        let stop : stop_of (of_end x.table x.stop) ≡ x.stop = rw (e, ne_eqb q.number 0 (m.numbered q e)) refl in
        ap₂ (λ (k : ℕ) (c : Check). record { figures = x.figures; table = k; stop = c }) table stop

-- no second report crosses as the same numbers, and so no second answer of the code
pub seen_kept : (x y : Report) → Ends x → Ends y → of_report x ≡ of_report y → x ≡ y
seen_kept x y m o e = sym (read_back x m) ∙ ap report_in e ∙ read_back y o

pub report_kept : (x y : TermReport) → Ends (seen_as x) → Ends (seen_as y) → of_report (seen_as x) ≡ of_report (seen_as y) → x ≡ y
report_kept x y m o e = seen_once x y (seen_kept (seen_as x) (seen_as y) m o e)
