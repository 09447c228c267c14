-- Demand 1 for the term report, said as in Demand1.antt, and its exception: document 02 lets a report whose table is refused leave the figures of
-- the tables before it. Assumes nothing.
use Rattle.ground.specs.Refusals.{Check}
use Rattle.std.specs.Prelude.{List, [], ◌++◌, ◌∷◌, refl, ◌≡◌, ℕ, length, Ok, Err}
use Rattle.std.proofs.Common.{ap, sym, ◌∙◌}
use Rattle.ground.specs.Ranges.{from, gather}
use Rattle.ground.specs.Steps.{of_table}
use Rattle.theory.specs.Tables.{limit}
use Rattle.figures.specs.Checks.{most_tables}
use Rattle.report.specs.InOrder.{Stop, report_steps, stop_at, table_numbers, tables_in}
use Rattle.report.proofs.InOrder.{report_decides, report_numbers}
use Rattle.report.specs.Outcome.{LeftReport, report_outcome}
use Rattle.numbers.specs.Reports.{of_end, of_report}
use Rattle.numbers.specs.declared.KemotuikiHead.{KemotuikiHead}
use Rattle.numbers.specs.declared.KemotuikiReport.{KemotuikiReport}
use Rattle.kemotuiki.specs.Crossing.{crossed_report}
use Rattle.kemotuiki.specs.Laws.Refusals.{refusals}
use Rattle.kemotuiki.specs.Refusals.{Refusals}
use Rattle.report.proofs.InOrder as reporting

module _ (bytes f t s f' t' s' : List ℕ) (r : KemotuikiReport) (p : LeftReport (crossed_report of_report (report_outcome limit bytes f t s)) r f' t' s') where
  -- 3 with table number 0, then 9, 1, 9, 11, 4, 20, 15, 19 for each table in turn; the buffers are left out, since those of the tables before a
  -- refused one are written
  pub report : Refusals (of_table 0 (3 ∷ []) ++ gather (from 1 (tables_in most_tables bytes)) table_numbers)
      (report_steps limit bytes (length f) (length t) (length s)) r.head [] []
  report =
      refusals (λ h. h) head_of stop_at (λ k q. refl) (report_numbers limit bytes (length f) (length t) (length s)) refl (report_decides limit bytes f t s)
      (ap (λ (x : KemotuikiReport). x.head) p.answered) (λ s q e. refl)
    where
      head_of : Stop → KemotuikiHead
      head_of x = of_end x.0 x.1

  -- but with table number 0 nothing is altered
  pub room_unaltered : (r.head.number ≡ 0 → ⊥) → r.head.table ≡ 0 → (f' ≡ f) × (t' ≡ t) × (s' ≡ s)
  room_unaltered h z = go (report_outcome limit bytes f t s).answer.stop refl
    where
      go : (c : Check) → (report_outcome limit bytes f t s).answer.stop ≡ c → (f' ≡ f) × (t' ≡ t) × (s' ≡ s)
      go (Ok tt) e =
          absurd (h (ap (λ (x : KemotuikiReport). x.head.number) p.answered ∙ ap (λ c. (of_end (report_outcome limit bytes f t s).answer.table c).number) e))
      go (Err q) e =
          let k = ap (λ (x : KemotuikiReport). x.head.table) p.answered ∙ ap (λ c. (of_end (report_outcome limit bytes f t s).answer.table c).table) e in
          let u = reporting.room_unaltered limit bytes f t s q e (sym k ∙ z) in
          (p.far-sides ∙ u.0, p.tree_numbers ∙ u.1, p.cost_sums ∙ u.2)
