-- The report's own check, and what it leaves. Assumes nothing.
use Rattle.ground.specs.Refusals.{Check}
use Rattle.std.specs.Prelude.{List, refl, ◌≡◌, ℕ, ltb, length, Ok, Err}
use Rattle.std.proofs.Common.{sym, ◌∙◌, ltb-false}
use Rattle.ground.specs.Laws.Refusals.{refuse_if-passed}
use Rattle.ground.specs.Laws.Tests.{or_false}
use Rattle.ground.specs.declared.Refusal.{Refusal}
use Rattle.theory.specs.Tables.{limit}
use Rattle.seen.specs.Columns.{Room}
use Rattle.figures.specs.Figures.{no_figures}
use Rattle.report.specs.Outcome.{LeftReport, outcome, report_outcome, room_check, short, Report}
use Rattle.figures.specs.Checks.{most_sides}
use Rattle.figures.specs.Reading.{read_all}

pub room-passed : (f t s : List ℕ) → room_check (length f) (length t) (length s) ≡ Ok tt → Room most_sides f t s
room-passed f t s e =
    let a = or_false (ltb (length f) most_sides) _ (refuse_if-passed (short (length f) (length t) (length s)) _ e) in
    let b = or_false (ltb (length t) most_sides) (ltb (length s) most_sides) a.1 in
    record { sides = ltb-false (length f) most_sides a.0; trees = ltb-false (length t) most_sides b.0; sums = ltb-false (length s) most_sides b.1 }

module _ (bytes f t s : List ℕ) (c : Check) (e : c ≡ room_check (length f) (length t) (length s)) where
  -- refused with 3: nothing is altered
  pub left-short : (r : Refusal) → c ≡ Err r
      → LeftReport (report_outcome limit bytes f t s)
      (record { figures = no_figures; table = 0; stop = c }) f t s
  left-short r p = rw (sym e ∙ p, p) (record { answered = refl; far-sides = refl; tree_numbers = refl; cost_sums = refl })

  pub left_read : (x : Report) (f' t' s' : List ℕ) → c ≡ Ok tt → LeftReport (outcome limit (Ok tt) (read_all limit bytes) f t s) x f' t' s'
      → LeftReport (report_outcome limit bytes f t s) x f' t' s'
  left_read x f' t' s' p l = rw (sym e ∙ p) l

  pub call_room : c ≡ Ok tt → Room most_sides f t s
  call_room p = room-passed f t s (sym e ∙ p)
