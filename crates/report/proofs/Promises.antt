-- The code's own answer: no two of them are seen as the same report, so that no second one meets the promise. Assumes nothing.
use Rattle.std.specs.Prelude.{List, refl, ◌≡◌, ℕ, Ok, Err, Result}
use Rattle.std.proofs.Common.{ap, sym, ◌∙◌}
use Rattle.ground.specs.Refusals.{Check}
use Rattle.ground.specs.declared.TableRefusal.{TableRefusal}
use Rattle.report.specs.declared.TermReport.{TermReport}
use Rattle.report.specs.Outcome.{LeftReport, ReportOutcome, end_in, seen_as, table_in, Report}
use Rattle.report.specs.Promises.{left_report_once}

-- the answer whose report this is
end_of : ℕ → Check → Result (Unit {0}) TableRefusal
end_of k (Ok tt) = Ok tt
end_of k (Err r) = Err (record { table = k; refusal = r })

answer_of : Report → TermReport
answer_of p = record { figures = p.figures; stop = end_of p.table p.stop }

answer_again : (x : TermReport) → answer_of (seen_as x) ≡ x
unfolding end_of answer_of
answer_again x = go x.stop refl
  where
    go : (c : Result (Unit {0}) TableRefusal) → x.stop ≡ c → answer_of (seen_as x) ≡ x
    go (Ok tt) e =
        let s : end_of (table_in x.stop) (end_in x.stop) ≡ x.stop = rw e refl in
        ap (λ (c : Result (Unit {0}) TableRefusal). record { figures = x.figures; stop = c }) s
    go (Err q) e =
        let s : end_of (table_in x.stop) (end_in x.stop) ≡ x.stop = rw e refl in
        ap (λ (c : Result (Unit {0}) TableRefusal). record { figures = x.figures; stop = c }) s

-- no two answers are seen as the same report
pub seen_once : (x y : TermReport) → seen_as x ≡ seen_as y → x ≡ y
seen_once x y e = sym (answer_again x) ∙ ap answer_of e ∙ answer_again y

-- so no second answer of the code meets its promise
pub answer_left_once : {o : ReportOutcome Report} {x y : TermReport} {f t s f' t' s' : List ℕ} → LeftReport o (seen_as x) f t s
    → LeftReport o (seen_as y) f' t' s' → (x ≡ y) × (f ≡ f') × (t ≡ t') × (s ≡ s')
answer_left_once {x = x} {y = y} a b = let q = left_report_once a b in (seen_once x y q.0, q.1, q.2, q.3)
