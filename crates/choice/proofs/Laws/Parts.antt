-- The part that the choice gives back: the used bytes of the table it names, and empty exactly when it refuses. Assumes nothing.
use Rattle.ground.specs.Refusals.{refused_in}
use Rattle.std.specs.Prelude.{cond, List, [], ◌↔◌, refl, ◌≡◌, ℕ, ◌≤◌, eqb, length, take, Ok, Err}
use Rattle.std.proofs.Common.{ap, sym, ◌∙◌, arith, length-take-le, eq-eqb, ne_eqb}
use Rattle.ground.specs.declared.Refusal.{Refusal}
use Rattle.bits.specs.Bits.{AllBytes}
use Rattle.bits.specs.Editions.{Marked}
use Rattle.link_forms.specs.Form.{link_bytes, link_form_at}
use Rattle.stored_links.proofs.Laws.Told.{links_marked}
use Rattle.stored_links.specs.Laws.WriteBack.{read_written}
use Rattle.link_forms.specs.Said.{costs_of, count_of, images_of, used_of}
use Rattle.choice.proofs.Laws.Accepted.{choice_accepted}
use Rattle.choice.specs.Call.{choice_either, choice_of, Chosen, part_of, sides_of, takes}
use Rattle.bits.specs.declared.Form.{Form}
use Rattle.choice.specs.Taken.{Begins, Taken, the_first, the_second}

-- what stores, in the form, the table that s begins with
abbrev pub stored_again : Form → List ℕ → List ℕ
stored_again form s = link_bytes form (images_of form s) (sides_of form s) (costs_of form (images_of form s) (count_of form s) s)

module _ (f g : Form) (s t : List ℕ) where
  -- ## The used bytes stand in the table's own buffer

  pub first_fits : (u : ℕ) → choice_of f g s t ≡ takes 1 u → u ≤ length s
  first_fits u e = let a = choice_accepted f g s t 1 u e in go a.first a.chosen
    where
      go : Begins f s → Taken f g s t 1 u → u ≤ length s
      go b (the_first p q h) = omega (arith, q, b.whole)
      go b (the_second p q h n) = absurd (omega (arith, p))

  pub second_fits : (k u : ℕ) → choice_of f g s t ≡ takes k u → (k ≡ 1 → ⊥) → u ≤ length t
  second_fits k u e d = let a = choice_accepted f g s t k u e in go a.second a.chosen
    where
      go : Begins g t → Taken f g s t k u → u ≤ length t
      go b (the_first p q h) = absurd (d p)
      go b (the_second p q h n) = omega (arith, q, b.whole)

  -- ## What the part is

  -- the part of the buffer that the choice names
  pub part-first : (u : ℕ) → choice_of f g s t ≡ takes 1 u → part_of (choice_of f g s t) s t ≡ take u s
  part-first u e = rw e

  pub part-second : (k u : ℕ) → choice_of f g s t ≡ takes k u → (k ≡ 1 → ⊥) → part_of (choice_of f g s t) s t ≡ take u t
  part-second k u e d = rw (e, ne_eqb k 1 d)

  pub part-refused : (m : ℕ) (r : Refusal) → choice_of f g s t ≡ refused_in m r → part_of (choice_of f g s t) s t ≡ []
  part-refused m r e = rw e

  -- it is as long as the choice says, and never empty
  pub part_length : (k u : ℕ) → choice_of f g s t ≡ takes k u → (length (part_of (choice_of f g s t) s t) ≡ u) × (1 ≤ u)
  part_length k u e = let a = choice_accepted f g s t k u e in rw e (go a.first a.second a.chosen)
    where
      go : Begins f s → Begins g t → Taken f g s t k u → (length (take u (cond (eqb k 1) s t)) ≡ u) × (1 ≤ u)
      go b c (the_first p q h) = rw (eq-eqb k 1 p) (length-take-le u s (omega (arith, q, b.whole)), omega (arith, q))
      go b c (the_second p q h n) = rw (ne_eqb k 1 (λ z. omega (arith, p, z))) (length-take-le u t (omega (arith, q, c.whole)), omega (arith, q))

  -- the used bytes are the stored form of the chosen table
  first_again : (u : ℕ) → AllBytes s → Marked f s → choice_of f g s t ≡ takes 1 u → part_of (choice_of f g s t) s t ≡ stored_again f s
  first_again u b m e =
      let a = choice_accepted f g s t 1 u e in
      part-first u e ∙ ap (λ x. take x s) (used a.chosen) ∙ sym (read_written f (images_of f s) (count_of f s) s a.first m b)
    where
      used : Taken f g s t 1 u → u ≡ used_of f s
      used (the_first p q h) = q
      used (the_second p q h n) = absurd (omega (arith, p))

  second_again : (u : ℕ) → AllBytes t → Marked g t → choice_of f g s t ≡ takes 2 u → part_of (choice_of f g s t) s t ≡ stored_again g t
  second_again u b m e =
      let a = choice_accepted f g s t 2 u e in
      part-second 2 u e (λ z. omega (arith, z)) ∙ ap (λ x. take x t) (used a.chosen)
      ∙ sym (read_written g (images_of g t) (count_of g t) t a.second m b)
    where
      used : Taken f g s t 2 u → u ≡ used_of g t
      used (the_first p q h) = absurd (omega (arith, p))
      used (the_second p q h n) = q

  -- empty exactly when the choice is refused
  pub part_empty : (part_of (choice_of f g s t) s t ≡ []) ↔ ((m : ℕ) × (r : Refusal) × (choice_of f g s t ≡ refused_in m r))
  part_empty = (λ e. go (choice_of f g s t) refl e, λ p. part-refused p.0 p.1 p.2)
    where
      go : (c : Chosen) → choice_of f g s t ≡ c → part_of (choice_of f g s t) s t ≡ [] → (m : ℕ) × (r : Refusal) × (choice_of f g s t ≡ refused_in m r)
      go (Ok x) q e = let p = part_length x.table x.used q in absurd (let z : length (part_of (choice_of f g s t) s t) ≡ 0 = ap length e in omega (arith, p, z))
      go (Err x) q e = (x.table, x.refusal, q)

-- ## In the form that the chosen table's own bytes tell

-- the part is the stored form of the chosen table
pub first_form : (s t : List ℕ) (u : ℕ) → AllBytes s → choice_either s t ≡ takes 1 u → part_of (choice_either s t) s t ≡ stored_again (link_form_at s 0) s
first_form s t u b e = first_again (link_form_at s 0) (link_form_at t 0) s t u b (links_marked s 0) e

pub second_form : (s t : List ℕ) (u : ℕ) → AllBytes t → choice_either s t ≡ takes 2 u → part_of (choice_either s t) s t ≡ stored_again (link_form_at t 0) t
second_form s t u b e = second_again (link_form_at s 0) (link_form_at t 0) s t u b (links_marked t 0) e
