-- What a refusal of the choice says: the first table's checks, then the second's, then 15, then 14. Assumes nothing.
use Rattle.std.specs.Prelude.{List, refl, ◌≡◌, ℕ, eqb, Ok, Err}
use Rattle.std.proofs.Common.{ap, sym, ◌∙◌, arith, eqb-true}
use Rattle.std.proofs.lemmas.Bool.{eqb-false}
use borrow.Table.Steps.{cases}
use Rattle.ground.specs.Refusals.{refusal, Check, refused_in}
use Rattle.ground.specs.declared.Refusal.{Refusal}
use Rattle.ground.specs.declared.TableRefusal.{TableRefusal}
use Rattle.stored_links.specs.Reading.{table_checks}
use Rattle.link_forms.specs.Said.{images_of, used_of}
use Rattle.choice.proofs.Laws.Accepted.{not_includes}
use Rattle.choice.specs.Call.{Chosen, against_second, choice_of, images_agree, inners_of, numbered, sides_of, taken, takes}
use Rattle.choice.specs.Inclusion.{includes}
use Rattle.stored_links.proofs.Laws.Enough.{table-begins}
use Rattle.bits.specs.declared.Form.{Form}
use Rattle.choice.specs.Taken.{Begins, FirstRefusal, Includes, of_first, of_images, of_neither, of_second}

-- whose refusal it is, and which
refused-same : (i m : ℕ) (a r : Refusal) → ◌≡◌ {A = Chosen} (refused_in i a) (refused_in m r) → (m ≡ i) × (r ≡ a)
refused-same i m a r e =
    let q : ◌≡◌ {A = TableRefusal} (record { table = m; refusal = r }) (record { table = i; refusal = a }) = cc in
    (ap (λ (x : TableRefusal). x.table) q, ap (λ (x : TableRefusal). x.refusal) q)

module _ (f g : Form) (s t : List ℕ) where
  pub choice_refused : (m : ℕ) (r : Refusal) → choice_of f g s t ≡ refused_in m r → FirstRefusal f g s t m r
  choice_refused m r e = first (table_checks f s) refl e
    where
      other : Begins f s → Begins g t → (images_of f s ≡ images_of g t → ⊥) → ◌≡◌ {A = Chosen} (refused_in 0 (refusal 15 0 0 0 0)) (refused_in m r)
          → FirstRefusal f g s t m r
      other a b n h = let q = refused-same 0 m (refusal 15 0 0 0 0) r h in of_images q.0 q.1 a b n

      none : Begins f s → Begins g t → images_of f s ≡ images_of g t → (Includes f g s t → ⊥) → (Includes g f t s → ⊥)
          → ◌≡◌ {A = Chosen} (refused_in 0 (refusal 14 0 0 0 0)) (refused_in m r) → FirstRefusal f g s t m r
      none a b n x z h = let q = refused-same 0 m (refusal 14 0 0 0 0) r h in of_neither q.0 q.1 a b n x z

      table : (k u : ℕ) → takes k u ≡ refused_in m r → FirstRefusal f g s t m r
      table k u h = absurd (let o : ◌≡◌ {A = ℕ} 0 1 = cc in omega arith)

      neither : Begins f s → Begins g t → images_of f s ≡ images_of g t
          → taken (inners_of f s) (used_of f s) (inners_of g t) (used_of g t) ≡ refused_in m r → FirstRefusal f g s t m r
      neither a b n h =
          cases (includes (inners_of f s) (inners_of g t))
          (λ x. table 1 (used_of f s) (rw x at h))
          (λ x. cases (includes (inners_of g t) (inners_of f s))
          (λ z. table 2 (used_of g t) (rw (x, z) at h))
          (λ z. none a b n (not_includes f g s t x) (not_includes g f t s z) (rw (x, z) at h)))

      second : (c : Check) → table_checks g t ≡ c → Begins f s
          → numbered 2 c
          (numbered 0 (images_agree (images_of f s) (images_of g t)) (taken (inners_of f s) (used_of f s) (inners_of g t) (used_of g t)))
          ≡ refused_in m r
          → FirstRefusal f g s t m r
      second (Ok tt) q a h =
          let b = table-begins g t q in
          cases (eqb (images_of f s) (images_of g t))
          (λ x. neither a b (eqb-true (images_of f s) (images_of g t) x) (rw x at h))
          (λ x. other a b (eqb-false (images_of f s) (images_of g t) x) (rw x at h))
      second (Err p) q a h = let x = refused-same 2 m p r h in of_second x.0 a (q ∙ ap Err (sym x.1))

      first : (c : Check) → table_checks f s ≡ c
          → numbered 1 c (against_second g (images_of f s) (sides_of f s) (used_of f s) t) ≡ refused_in m r → FirstRefusal f g s t m r
      first (Ok tt) q h = second (table_checks g t) refl (table-begins f s q) h
      first (Err p) q h = let x = refused-same 1 m p r h in of_first x.0 (q ∙ ap Err (sym x.1))
