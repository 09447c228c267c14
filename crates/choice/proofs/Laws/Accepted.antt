-- What the promise of the choice is worth: which pairs of stored tables are accepted, and which of the two is then taken. Assumes nothing.
use Rattle.ground.specs.Refusals.{Check, refused_in}
use Rattle.std.specs.Prelude.{cond, false, not, ◌||◌, List, ◌↔◌, ◌⊎◌, ◌≡◌, ℕ, eqb, Ok}
use Rattle.std.proofs.lemmas.Bool.{false≢true, not-false}
use Rattle.std.proofs.Common.{ap, inl, inr, sym, ◌∙◌, arith, eq-eqb, eqb-true}
use borrow.Table.Steps.{cases}
use Rattle.ground.specs.Laws.Refusals.{refuse_if-passed}
use Rattle.ground.specs.Laws.Refusals.{if_accepted}
use Rattle.choice.specs.Call.{against_second, choice_of, Chosen, images_agree, inclusion, inners_of, numbered, sides_of, taken, takes}
use Rattle.choice.specs.Inclusion.{includes}
use Rattle.choice.specs.declared.answer.Choice.{Choice}
use Rattle.choice.specs.Laws.Inclusion.{each_includes, includes_each}
use Rattle.stored_links.proofs.Laws.Enough.{table-begins}
use Rattle.stored_links.proofs.Laws.Passed.{passed-table}
use Rattle.stored_links.specs.Reading.{table_checks}
use Rattle.link_forms.specs.Said.{count_of, images_of, used_of}
use Rattle.bits.specs.declared.Form.{Form}
use Rattle.choice.specs.Taken.{Begins, ChoiceMade, Includes, Taken, the_first, the_second}

-- the table that is taken, and its used bytes
takes-same : (k u m v : ℕ) → takes k u ≡ takes m v → (m ≡ k) × (v ≡ u)
takes-same k u m v e =
    let q : ◌≡◌ {A = Choice} (record { table = m; used = v }) (record { table = k; used = u }) = cc in
    (ap (λ (x : Choice). x.table) q, ap (λ (x : Choice). x.used) q)

numbered-table : (m : ℕ) (c : Check) (y : Chosen) {k u : ℕ} → numbered m c y ≡ takes k u → (c ≡ Ok tt) × (y ≡ takes k u)
numbered-table m c y = if_accepted (refused_in m) c y (λ r q. absurd (let o : ◌≡◌ {A = ℕ} 0 1 = cc in omega arith))

not_included : (f g : Form) (s t : List ℕ) → (Includes f g s t → ⊥) → includes (inners_of f s) (inners_of g t) ≡ false
not_included f g s t h =
    cases (includes (inners_of f s) (inners_of g t)) (λ e. absurd (h (includes_each (inners_of f s) (inners_of g t) e))) (λ e. e)

pub not_includes : (f g : Form) (s t : List ℕ) → includes (inners_of f s) (inners_of g t) ≡ false → Includes f g s t → ⊥
not_includes f g s t e h = false≢true (sym e ∙ each_includes (inners_of f s) (inners_of g t) h)

module _ (f g : Form) (s t : List ℕ) where
  taken-says : (k u : ℕ) → taken (inners_of f s) (used_of f s) (inners_of g t) (used_of g t) ≡ takes k u → Taken f g s t k u
  taken-says k u e =
      let l = inners_of f s in
      let r = inners_of g t in
      let a = numbered-table 0 (inclusion l r) (cond (includes l r) (takes 1 (used_of f s)) (takes 2 (used_of g t))) e in
      let b = not-false (includes l r || includes r l) (refuse_if-passed (not (includes l r || includes r l)) _ a.0) in
      cases (includes l r)
      (λ p. first (rw p at a.1) (includes_each l r p))
      (λ p. second (rw p at a.1) (includes_each r l (rw p at b)) (not_includes f g s t p))
    where
      first : takes 1 (used_of f s) ≡ takes k u → Includes f g s t → Taken f g s t k u
      first q h = let e = takes-same 1 (used_of f s) k u q in the_first e.0 e.1 h

      second : takes 2 (used_of g t) ≡ takes k u → Includes g f t s → (Includes f g s t → ⊥) → Taken f g s t k u
      second q h n = let e = takes-same 2 (used_of g t) k u q in the_second e.0 e.1 h n

  pub choice_accepted : (k u : ℕ) → choice_of f g s t ≡ takes k u → ChoiceMade f g s t k u
  choice_accepted k u e =
      let y = taken (inners_of f s) (used_of f s) (inners_of g t) (used_of g t) in
      let a = numbered-table 1 (table_checks f s) (against_second g (images_of f s) (sides_of f s) (used_of f s) t) e in
      let b = numbered-table 2 (table_checks g t) (numbered 0 (images_agree (images_of f s) (images_of g t)) y) a.1 in
      let c = numbered-table 0 (images_agree (images_of f s) (images_of g t)) y b.1 in
      record {
        first = table-begins f s a.0;
        second = table-begins g t b.0;
        same = eqb-true (images_of f s) (images_of g t) (not-false _ (refuse_if-passed (not (eqb (images_of f s) (images_of g t))) _ c.0));
        chosen = taken-says k u c.1;
      }

  -- ## Accepted exactly then

  reached : Begins f s → Begins g t → images_of f s ≡ images_of g t
      → choice_of f g s t ≡ taken (inners_of f s) (used_of f s) (inners_of g t) (used_of g t)
  reached a b e =
      rw (
        passed-table f s (images_of f s) (count_of f s) a,
        passed-table g t (images_of g t) (count_of g t) b,
        eq-eqb (images_of f s)
            (images_of g t) e,
      )

  -- the first if both do
  pub first_taken : Begins f s → Begins g t → images_of f s ≡ images_of g t → Includes f g s t
      → choice_of f g s t ≡ takes 1 (used_of f s)
  first_taken a b e h = reached a b e ∙ go
    where
      go : taken (inners_of f s) (used_of f s) (inners_of g t) (used_of g t) ≡ takes 1 (used_of f s)
      go = rw (each_includes (inners_of f s) (inners_of g t) h)

  pub second-taken : Begins f s → Begins g t → images_of f s ≡ images_of g t → Includes g f t s → (Includes f g s t → ⊥)
      → choice_of f g s t ≡ takes 2 (used_of g t)
  second-taken a b e h n = reached a b e ∙ go
    where
      go : taken (inners_of f s) (used_of f s) (inners_of g t) (used_of g t) ≡ takes 2 (used_of g t)
      go = rw (not_included f g s t n, each_includes (inners_of g t) (inners_of f s) h)

  -- both are stored link tables of one n, and one includes the other
  pub choice_exactly : ((k : ℕ) × (u : ℕ) × (choice_of f g s t ≡ takes k u))
      ↔ (Begins f s × Begins g t × (images_of f s ≡ images_of g t) × (Includes f g s t ⊎ Includes g f t s))
  choice_exactly = (
    λ p. let a = choice_accepted p.0 p.1 p.2 in (a.first, a.second, a.same, either a.chosen),
    λ p. cases (includes (inners_of f s) (inners_of g t))
        (λ e. (1, used_of f s, first_taken p.0 p.1 p.2 (includes_each (inners_of f s) (inners_of g t) e)))
        (λ e. (2, used_of g t, second-taken p.0 p.1 p.2 (other e p.3) (not_includes f g s t e))),
  )
    where
      either : {k u : ℕ} → Taken f g s t k u → Includes f g s t ⊎ Includes g f t s
      either (the_first a b h) = inl h
      either (the_second a b h n) = inr h

      other : includes (inners_of f s) (inners_of g t) ≡ false → Includes f g s t ⊎ Includes g f t s → Includes g f t s
      other e (inl h) = absurd (not_includes f g s t e h)
      other e (inr h) = h
