-- Stored cost tables with two images that cost nothing, as they could be written before those were refused: what a conversion makes of them. s are
-- the bytes that it was given, out the lent ones. Assumes nothing.
use Rattle.std.specs.Prelude.{List, ◌↔◌, refl, ◌≡◌, ℕ, ◌+◌, ◌≤◌, length, Ok, Err}
use Rattle.std.proofs.Common.{sym, ◌∙◌, arith}
use Rattle.ground.specs.Refusals.{◌then◌, Check}
use Rattle.ground.specs.Laws.Refusals.{then_passed}
use Rattle.ground.specs.declared.Refusal.{Refusal}
use Rattle.theory.specs.Checks.{images_check}
use Rattle.theory.specs.Tables.{cost}
use Rattle.tables.specs.Checks.{least_check, off_diagonal_check}
use Rattle.tables.proofs.Laws.Formed.{off_diagonal_passed, passed_off_diagonal}
use Rattle.tables.proofs.Laws.Pairs.{pairs_agree}
use Rattle.bits.specs.Forms.{bytes_for}
use Rattle.bits.specs.Kinds.{end_check}
use Rattle.bits.specs.declared.Edition.{Edition}
use Rattle.bits.specs.declared.Edition.TheVariants.{New}
use Rattle.cost_forms.specs.Entries.{entry_cost}
use Rattle.cost_forms.specs.Form.{cost_form_at}
use Rattle.cost_forms.specs.Said.{entry_of}
use Rattle.cost_forms.specs.Laws.Tables.{table-cost}
use Rattle.stored_costs.specs.Reading.{body_checks, stored_check, table_checks}
use Rattle.conversion.proofs.ConvertedCosts.{to_new_always}
use Rattle.conversion.specs.Costs.{costs_converted, images_said, table_said, used_in}
use Rattle.conversion.proofs.Laws.Costs.{converted}
pub use Rattle.conversion.specs.Zeros.{earlier_checks, NoZeros}

module _ (s : List ℕ) (earlier : earlier_checks s ≡ Ok tt) where
  abbrev twenty : Check
  twenty = off_diagonal_check (cost (table_said s) (images_said s)) (images_said s)

  -- where all those passed, 20 is left
  twenty-left : table_checks (cost_form_at s 0) s ≡ twenty
  twenty-left =
      let form = cost_form_at s 0 in
      let n = images_said s in
      let four = stored_check form.limit (entry_cost (entry_of form s) n) n in
      let a = then_passed (end_check s (bytes_for (form.head + 7))) (images_check n then body_checks form n s then four) earlier in
      let b = then_passed (images_check n) (body_checks form n s then four) a.1 in
      let c = then_passed (body_checks form n s) four b.1 in
      rw (a.0, b.0, c.0, c.1)
      (pairs_agree (least_check 1 (entry_cost (entry_of form s) n)) (least_check 1 (cost (table_said s) n)) n
      (λ i j l k. rw (table-cost (entry_of form s) n i j (omega arith) k) refl))

  -- Old to new works exactly for the tables in which no two images cost nothing.
  pub to_new_exactly : (out : List ℕ) → used_in New s ≤ length out → ((costs_converted New s out).answer ≡ Ok (used_in New s)) ↔ NoZeros s
  to_new_exactly out h = (
    λ e. off_diagonal_passed (cost (table_said s) (images_said s)) (images_said s)
        (sym twenty-left ∙ (converted New s out (used_in New s) _ (record { answered = sym e; left = refl })).begins),
    λ z. to_new_always s out (twenty-left ∙ passed_off_diagonal (cost (table_said s) (images_said s)) (images_said s) z) h,
  )

  -- The others get 20, whichever form is asked for, and nothing is altered.
  pub zeros_refused : (e : Edition) (out : List ℕ) (r : Refusal) → twenty ≡ Err r
      → costs_converted e s out ≡ record { answer = Err r; places = out }
  zeros_refused e out r q = rw (twenty-left, q)
