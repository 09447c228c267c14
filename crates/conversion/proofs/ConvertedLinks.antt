-- What the conversion of a stored link table is worth: s are the bytes that it was given, out the lent ones, and out' what it left there.
-- Assumes nothing.
use Rattle.std.specs.Prelude.{List, [], ◌++◌, ◌↔◌, refl, ◌≡◌, ℕ, ◌*◌, ◌-◌, ◌≤◌, drop, length, take, Ok}
use Rattle.std.proofs.Common.{ap, subst, sym, ◌∙◌}
use Rattle.ground.specs.Outcomes.{Left, Outcome, wrote_into}
use Rattle.ground.specs.Refusals.{Written}
use Rattle.bits.specs.Bits.{AllBytes}
use Rattle.bits.specs.Editions.{edition_of}
use Rattle.bits.specs.declared.Edition.{Edition}
use Rattle.bits.specs.declared.Edition.TheVariants.{New, Old}
use Rattle.link_forms.specs.Form.{link_bytes, link_form, link_form_at}
use Rattle.stored_links.proofs.Laws.Enough.{links_said, links_stored, table-begins}
use Rattle.stored_links.proofs.Laws.Told.{either_written, links_marked}
use Rattle.stored_links.specs.Laws.WriteBack.{read_written}
use Rattle.stored_links.specs.Outcomes.{read_either}
use Rattle.stored_links.specs.Stored.{read_into}
use Rattle.conversion.specs.Links.{Begins, CostsFit, costs_said, count_said, fars_said, images_said, links_converted, used_in}
use Rattle.conversion.proofs.Laws.Links.{accepted, begins-table, begun-table, converted, fitting, stored_table_lem}

module _ (e : Edition) (s out : List ℕ) where
  -- A conversion works exactly when every number fits: to the old form, when none is above the old limits.
  pub exactly_what_fits : Begins s → used_in e s ≤ length out → ((links_converted e s out).answer ≡ Ok (used_in e s)) ↔ CostsFit e s
  exactly_what_fits b h =
      let f = fitting e s b in (
        λ q. f.1 (converted e s out (used_in e s) _ (record { answered = sym q; left = refl })).table,
        λ c. ap (λ (o : Outcome Written). o.answer) (accepted e s out b (f.0 c) h),
      )

  -- The same rows: what was left is read as the table that was read before.
  pub same_rows : (u : ℕ) (out' f v : List ℕ) → Left (links_converted e s out) (Ok u) out' → 2 * images_said s - 3 ≤ length f
      → 2 * images_said s - 3 ≤ length v → read_either out' 0 f v ≡ read_into (images_said s) (count_said s) u (fars_said s) (costs_said s) f v
  same_rows u out' f v p h i =
      let k = converted e s out u out' p in
      let m = link_bytes (link_form e) (images_said s) (fars_said s) (costs_said s) in
      ap (λ (x : List ℕ). read_either x 0 f v) k.left
      ∙ either_written e (images_said s) (count_said s) (fars_said s) (costs_said s) [] (drop (length m) out) f v k.table h i
      ∙ ap (λ (x : ℕ). read_into (images_said s) (count_said s) x (fars_said s) (costs_said s) f v) k.used

  -- Once it was converted, going on to any form gives what the first bytes give.
  pub on_to_another : (g : Edition) (u : ℕ) (out' more : List ℕ) → Left (links_converted e s out) (Ok u) out'
      → links_converted g out' more ≡ links_converted g s more
  on_to_another g u out' more p =
      let k = converted e s out u out' p in
      let m = link_bytes (link_form e) (images_said s) (fars_said s) (costs_said s) in
      ap (λ (x : List ℕ). links_converted g x more) k.left
      ∙ stored_table_lem e g (images_said s) (count_said s) (fars_said s) (costs_said s) (m ++ drop (length m) out) more
      (links_stored e (images_said s) (count_said s) (fars_said s) (costs_said s) (drop (length m) out) k.table)
      ∙ sym (begun-table g s more k.begins)

-- To the new form always works, and there is nothing but room to ask for: old tables among them.
pub to_new_always : (s out : List ℕ) → Begins s → used_in New s ≤ length out → (links_converted New s out).answer ≡ Ok (used_in New s)
to_new_always s out b h = ap (λ (o : Outcome Written). o.answer) (accepted New s out b (begins-table s b) h)

-- To its own form gives the same used bytes.
pub own_form : (e : Edition) (s out : List ℕ) → AllBytes s → edition_of s ≡ e → Begins s → used_in e s ≤ length out
    → links_converted e s out ≡ wrote_into (used_in e s) (take (used_in e s) s) out
own_form e s out b q k =
    subst (λ (x : Edition). used_in x s ≤ length out → links_converted x s out ≡ wrote_into (used_in x s) (take (used_in x s) s) out) q told
  where
    told : used_in (edition_of s) s ≤ length out
        → links_converted (edition_of s) s out ≡ wrote_into (used_in (edition_of s) s) (take (used_in (edition_of s) s) s) out
    told h =
        let form = link_form_at s 0 in
        accepted (edition_of s) s out k (links_said form s k) h
        ∙ ap (λ (m : List ℕ). wrote_into (used_in (edition_of s) s) m out)
        (read_written form (images_said s) (count_said s) s (table-begins form s k) (links_marked s 0) b)

-- Old to new to old gives the same bytes.
pub old_new_old : (s out : List ℕ) (u : ℕ) (out' more : List ℕ) → AllBytes s → edition_of s ≡ Old → Left (links_converted New s out) (Ok u) out'
    → used_in Old s ≤ length more → links_converted Old out' more ≡ wrote_into (used_in Old s) (take (used_in Old s) s) more
old_new_old s out u out' more b q p h =
    on_to_another New s out Old u out' more p ∙ own_form Old s more b q (converted New s out u out' p).begins h
