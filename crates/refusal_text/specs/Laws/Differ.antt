-- Two refusals never have the same text, with the same table in front. Assumes nothing.
use Rattle.std.specs.Prelude.{true, [], ◌++◌, refl, ◌≡◌, ℕ, eqb}
use Rattle.std.proofs.lemmas.List.{append_cancel_left}
use Rattle.std.proofs.Math.Path.{sym}
use Rattle.std.proofs.Common.{◌∙◌}
use borrow.Author.Tests.{eqb-false, eqb-true}
use borrow.Table.Steps.{cases}
use Rattle.text.specs.Fields.{field, fields}
use Rattle.text.specs.Words.{bytes_of}
use Rattle.sayings.specs.Laws.Parted.{parted-differ}
use Rattle.sayings.specs.Laws.Phrases.{phrases_differ}
use Rattle.sayings.specs.Laws.Said.{known}
use Rattle.phrases.specs.Said.{saying_text}
use Rattle.sayings.specs.Said.{said_of}
use Rattle.phrases.specs.Saying.{saying_in}
use Rattle.sayings.specs.Sayings.{sayings}
use Rattle.refusal_text.specs.Laws.About.{about-accepted, about_none, about-one}
use Rattle.refusal_text.specs.Text.{refusal_text}

-- 0 in front of no table, and the table in front of any other
accepted-apart : (t j a b c d a' b' c' d' : ℕ) → (t ≡ 0 → ⊥) → (j ≡ 0 → ⊥) → refusal_text 0 t a b c d ≡ refusal_text j t a' b' c' d' → ⊥
unfolding refusal_text said_of saying_text saying_in sayings bytes_of fields
accepted-apart t j a b c d a' b' c' d' z n e =
    parted-differ (bytes_of "accepted") (bytes_of "table") [] _ refl
    (rw (about-accepted 0 t refl, about-one j t n z) at e)

module _ (k j a b c d a' b' c' d' : ℕ) (h : known k ≡ true) where
  -- what is said tells the number
  abbrev said_alike : said_of k a b c d ≡ said_of j a' b' c' d' → k ≡ j
  said_alike = phrases_differ k j a b c d a' b' c' d' h

  -- the text of a refusal is that of no other number, with the same table in front
  pub texts_differ : (t : ℕ) → refusal_text k t a b c d ≡ refusal_text j t a' b' c' d' → k ≡ j
  unfolding refusal_text
  texts_differ t e =
      cases (eqb t 0) (λ z. let y = eqb-true t 0 z in said_alike (rw (about_none k t y, about_none j t y) at e)) (λ z.
      let y = eqb-false t 0 z in
      cases (eqb k 0)
      (λ f. cases (eqb j 0) (λ g. eqb-true k 0 f ∙ sym (eqb-true j 0 g))
      (λ g. absurd (accepted-apart t j a b c d a' b' c' d' y (eqb-false j 0 g) (rw (eqb-true k 0 f) at e))))
      (λ f. cases (eqb j 0) (λ g. absurd (accepted-apart t k a' b' c' d' a b c d y (eqb-false k 0 f) (rw (eqb-true j 0 g) at (sym e))))
      (λ g. said_alike (append_cancel_left (bytes_of "table" ++ (field t ++ bytes_of ": ")) _ _
      (rw (about-one k t (eqb-false k 0 f) y, about-one j t (eqb-false j 0 g) y) at e)))))
