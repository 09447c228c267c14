-- How bytes tell which form they have. Assumes nothing.
use mathlib.Core.List.{List, [], append_assoc, ◌++◌, ◌∷◌}
use Rattle.std.proofs.Math.Path.{ap, ap₂, refl}
use Rattle.std.proofs.Common.{◌∙◌, arith, eq-eqb, eqb-true, ne_eqb}
use Rattle.std.specs.Prelude.{◌≡◌, ℕ, ◌<◌, ◌≤◌, eqb, length}
use borrow.Table.Steps.{cases}
use Rattle.bits.specs.Bits.{bits, bits_of, number_at, part, value_of}
use Rattle.bits.specs.Editions.{Marked, ToldApart, edition_of, new_mark}
use Rattle.bits.specs.Laws.Behind.{part-behind}
use Rattle.bits.specs.Laws.Numbers.{length-bits_of, value-bits}
use Rattle.bits.specs.Laws.Parts.{part_cut}
use Rattle.bits.specs.declared.Edition.{Edition}
use Rattle.bits.specs.declared.Edition.TheVariants.{New, Old}
use Rattle.bits.specs.declared.Form.{Form}

-- no bytes have the old form
pub edition_none : (s : List ℕ) → length s ≡ 0 → edition_of s ≡ Old
unfolding edition_of bits part value_of
edition_none [] h = refl
edition_none (b ∷ s) h = absurd (omega arith)

-- with the mark in front the new one, else the old one
pub edition_new : (s : List ℕ) → number_at s 0 7 ≡ new_mark → edition_of s ≡ New
unfolding edition_of
edition_new s h = rw (eq-eqb (number_at s 0 7) new_mark h)

pub edition_old : (s : List ℕ) → (number_at s 0 7 ≡ new_mark → ⊥) → edition_of s ≡ Old
unfolding edition_of
edition_old s h = rw (ne_eqb (number_at s 0 7) new_mark h)

-- the first byte tells, whatever follows it
pub edition_behind : (s b : List ℕ) → 1 ≤ length s → edition_of (s ++ b) ≡ edition_of s
unfolding edition_of
edition_behind s b h = rw (part-behind s b 0 7 (omega arith)) refl

module _ (form : Edition → Form) (apart : ToldApart form) where
  -- bytes have the mark of the form that they tell
  pub told_marked : (s : List ℕ) → Marked (form (edition_of s)) s
  unfolding edition_of part value_of
  told_marked s =
      cases (eqb (number_at s 0 7) new_mark)
      (λ e. rw (e, apart.marked.0, apart.marked.1) (eqb-true (number_at s 0 7) new_mark e))
      (λ e. rw (e, apart.plain.0, apart.plain.1) refl)

  -- a table that begins as the form says, with so few images, tells that form
  pub told_form : (e : Edition) (n : ℕ) (s rest : List ℕ) → n < new_mark
      → bits s ≡ (bits_of (form e).head (form e).mark ++ bits_of 7 n) ++ rest → edition_of s ≡ e
  unfolding bits_of
  told_form Old n s rest h q =
      let front : part (bits s) 0 7 ≡ bits_of 7 n =
      ap (λ (l : List ℕ). part l 0 7) (q ∙ ap (λ (k : ℕ). (bits_of k (form Old).mark ++ bits_of 7 n) ++ rest) apart.plain.0)
      ∙ part_cut [] (bits_of 7 n) rest 0 7 refl (length-bits_of 7 n) in
      let is : number_at s 0 7 ≡ n = ap value_of front ∙ value-bits 7 n (omega arith) in
      edition_old s (λ z. omega (arith, is, z))
  told_form New n s rest h q =
      let m = bits_of 7 new_mark in
      let front : part (bits s) 0 7 ≡ m =
      ap (λ (l : List ℕ). part l 0 7)
      (q ∙ ap₂ (λ (k x : ℕ). (bits_of k x ++ bits_of 7 n) ++ rest) apart.marked.0 apart.marked.1 ∙ append_assoc m (bits_of 7 n) rest)
      ∙ part_cut [] m (bits_of 7 n ++ rest) 0 7 refl (length-bits_of 7 new_mark) in
      edition_new s (ap value_of front ∙ value-bits 7 new_mark (omega arith))
