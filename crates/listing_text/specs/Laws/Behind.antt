-- What is said of the bytes s in a form, and that bytes behind cannot matter where s reach as far as reading looks. Assumes nothing.
use Rattle.ground.specs.Refusals.{Check}
use Rattle.std.specs.Prelude.{List, ◌++◌, refl, ◌≡◌, ℕ, Ok, Err}
use Rattle.std.proofs.Common.{ap, sym, ◌∙◌, arith}
use Rattle.bits.specs.Laws.Editions.{edition_behind}
use Rattle.bits.specs.declared.Edition.{Edition}
use Rattle.bits.specs.declared.Form.{Form}
use Rattle.cost_forms.specs.Form.{cost_form, cost_form_at}
use Rattle.cost_forms.specs.Said.{images_of, stored_table}
use Rattle.stored_costs.proofs.Laws.Behind.{Reaching, checks_behind, images-behind, table-behind}
use Rattle.stored_costs.proofs.Laws.Enough.{enough_room, table_readable}
use Rattle.stored_costs.specs.Reading.{table_checks}
use Rattle.listing_text.specs.Listing.{stored_text}
use Rattle.table_text.specs.TableText.{text_if}

-- by the check, what is said of the table that the bytes s say in the form
abbrev pub text_by : (ℕ → List ℕ → List ℕ) → Form → Check → List ℕ → List ℕ
text_by said form c s = text_if c (said (images_of form s) (stored_table form (images_of form s) s))

-- by the form's own checks
abbrev pub text_in : (ℕ → List ℕ → List ℕ) → Form → List ℕ → List ℕ
text_in said form s = text_by said form (table_checks form s) s

module _ (said : ℕ → List ℕ → List ℕ) (s b : List ℕ) where
  in_form : (form : Form) → Reaching form s → text_in said form (s ++ b) ≡ text_in said form s
  in_form form r =
      let k : table_checks form (s ++ b) ≡ table_checks form s =
      sym (enough_room form (s ++ b) 4096 (omega arith)) ∙ checks_behind form s b r 4096 ∙ enough_room form s 4096 (omega arith) in
      ap (λ (c : Check). text_by said form c (s ++ b)) k ∙ go (table_checks form s) refl
    where
      go : (c : Check) → table_checks form s ≡ c → text_by said form c (s ++ b) ≡ text_by said form c s
      go (Ok tt) e =
          ap (λ (n : ℕ). said n (stored_table form n (s ++ b))) (images-behind form s b r)
          ∙ ap (said (images_of form s)) (table-behind form s b r (table_readable form s e).few)
      go (Err q) e = refl

  -- the first byte tells the form
  pub stored_reached : Reaching (cost_form_at s 0) s → stored_text said (s ++ b) ≡ stored_text said s
  stored_reached r =
      ap (λ (e : Edition). text_in said (cost_form e) (s ++ b)) (edition_behind s b (omega (arith, r.begun))) ∙ in_form (cost_form_at s 0) r
