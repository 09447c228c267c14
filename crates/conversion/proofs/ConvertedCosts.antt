-- What the conversion of a stored cost table is worth: s are the bytes that it was given, out the lent ones, and out' what it left there.
-- Assumes nothing.
use Rattle.std.specs.Prelude.{List, [], ◌++◌, ◌↔◌, refl, ◌≡◌, ℕ, ◌*◌, ◌≤◌, drop, length, take, Ok}
use Rattle.std.proofs.Common.{ap, subst, sym, ◌∙◌}
use Rattle.ground.specs.Outcomes.{Left, Outcome, wrote_into}
use Rattle.ground.specs.Refusals.{Written}
use Rattle.theory.specs.Tables.{cost}
use Rattle.bits.specs.Bits.{AllBytes}
use Rattle.bits.specs.Editions.{edition_of}
use Rattle.bits.specs.declared.Edition.{Edition}
use Rattle.bits.specs.declared.Edition.TheVariants.{New, Old}
use Rattle.cost_forms.specs.Form.{cost_bytes, cost_form, cost_form_at}
use Rattle.stored_costs.proofs.Laws.Enough.{table_readable, table_said_lem, table_stored}
use Rattle.stored_costs.proofs.Laws.Told.{costs-marked, either_written}
use Rattle.stored_costs.specs.Laws.WriteBack.{read_table, read_written}
use Rattle.stored_costs.specs.Outcomes.{read_either}
use Rattle.stored_costs.specs.Stored.{read_into}
use Rattle.conversion.specs.Costs.{Begins, EntriesFit, costs_converted, images_said, table_said, used_in}
use Rattle.conversion.proofs.Laws.Costs.{accepted, begun-table, converted, fitting, stored_table_lem}

module _ (e : Edition) (s out : List ℕ) where
  -- A conversion works exactly when every number fits: to the old form, when none is above the old limits.
  pub exactly_what_fits : Begins s → used_in e s ≤ length out
      → ((costs_converted e s out).answer ≡ Ok (used_in e s)) ↔ EntriesFit e s
  exactly_what_fits b h = (
    λ q. let k = converted e s out (used_in e s) _ (record { answered = sym q; left = refl }) in
        λ i j hi hj. k.table.formed.small {i = i} {j = j} hi hj,
    λ f. ap (λ (o : Outcome Written). o.answer) (accepted e s out b (fitting e s b f) h),
  )

  -- The same entries: what was left is read as the table that was read before.
  pub same_entries : (u : ℕ) (out' places : List ℕ) → Left (costs_converted e s out) (Ok u) out' → images_said s * images_said s ≤ length places
      → read_either out' 0 places ≡ read_into (images_said s) u (table_said s) places
  same_entries u out' places p h =
      let k = converted e s out u out' p in
      let n = images_said s in
      let t = table_said s in
      ap (λ (x : List ℕ). read_either x 0 places) k.left
      ∙ either_written e n t [] (drop (length (cost_bytes (cost_form e) n (cost t n))) out) places k.table h
      ∙ ap (λ (x : ℕ). read_into n x t places) k.used

  -- Once it was converted, going on to any form gives what the first bytes give.
  pub on_to_another : (g : Edition) (u : ℕ) (out' more : List ℕ) → Left (costs_converted e s out) (Ok u) out'
      → costs_converted g out' more ≡ costs_converted g s more
  on_to_another g u out' more p =
      let k = converted e s out u out' p in
      let n = images_said s in
      let t = table_said s in
      let m = cost_bytes (cost_form e) n (cost t n) in
      ap (λ (x : List ℕ). costs_converted g x more) k.left
      ∙ stored_table_lem e g n t (m ++ drop (length m) out) more (table_stored e n t (drop (length m) out) k.table)
      ∙ sym (begun-table g s more k.begins)

-- To the new form always works, and there is nothing but room to ask for: old tables among them.
pub to_new_always : (s out : List ℕ) → Begins s → used_in New s ≤ length out
    → (costs_converted New s out).answer ≡ Ok (used_in New s)
to_new_always s out b h = ap (λ (o : Outcome Written). o.answer) (accepted New s out b (table_said_lem s b) h)

-- To its own form gives the same used bytes.
pub own_form : (e : Edition) (s out : List ℕ) → AllBytes s → edition_of s ≡ e → Begins s → used_in e s ≤ length out
    → costs_converted e s out ≡ wrote_into (used_in e s) (take (used_in e s) s) out
own_form e s out b q k =
    subst (λ (x : Edition). used_in x s ≤ length out → costs_converted x s out ≡ wrote_into (used_in x s) (take (used_in x s) s) out) q told
  where
    told : used_in (edition_of s) s ≤ length out
        → costs_converted (edition_of s) s out ≡ wrote_into (used_in (edition_of s) s) (take (used_in (edition_of s) s) s) out
    told h =
        let r = table_readable (cost_form_at s 0) s k in
        accepted (edition_of s) s out k (read_table (cost_form_at s 0) s 4096 r) h
        ∙ ap (λ (m : List ℕ). wrote_into (used_in (edition_of s) s) m out) (read_written (cost_form_at s 0) s 4096 r (costs-marked s 0) b)

-- Old to new to old gives the same bytes.
pub old_new_old : (s out : List ℕ) (u : ℕ) (out' more : List ℕ) → AllBytes s → edition_of s ≡ Old → Left (costs_converted New s out) (Ok u) out'
    → used_in Old s ≤ length more
    → costs_converted Old out' more ≡ wrote_into (used_in Old s) (take (used_in Old s) s) more
old_new_old s out u out' more b o p h =
    on_to_another New s out Old u out' more p ∙ own_form Old s more b o (converted New s out u out' p).begins h
