-- Refusal 22: no sibling is below the one before just where siblings stand in ascending order. Assumes nothing.
use mathlib.Core.List.Memᴰ
use Rattle.std.proofs.Common.{ap, arith, le-ltb, ltb-false}
use Rattle.std.proofs.Math.Path.{refl}
use Rattle.std.specs.Prelude.{◌≡◌, suc, zero, ℕ, ◌+◌, ◌<◌, ◌≤◌, ltb, length}
use borrow.Table.Steps.{cases}
use Rattle.ground.specs.Bits.{bit}
use Rattle.ground.specs.Filters.{Each}
use Rattle.ground.specs.Laws.Bits.{bit-some}
use Rattle.text.specs.Decimal.{decimal}
use Rattle.newick_text.specs.Trees.{Head, Siblings, bracket, closed, image, listed, named, none}
use Rattle.newick_text.specs.Tables.{image_side, side}
use Rattle.newick_text.specs.Order.{Rising, RisingTree, fall, fall_from, first_of}
use Rattle.newick_text.specs.Laws.Parts.{rising_from}
use Rattle.newick_text.specs.Laws.Sides.{head_bit, top_fits, top-occ}
use Rattle.newick_text.specs.Laws.Sizes.{tops-some}
use Rattle.newick_text.specs.Laws.Vertices.{Bushy, HeadNamed, Named, Once, behind_once, head_occ, head_side, occ, once_inner, once_rest, tops}

-- strictly, where no far side is twice
strictly : (x : ℕ) (r : Siblings) → Each (tops r) (λ X. X ≡ x → ⊥) → Rising x r → Rising (suc x) r
unfolding tops
strictly x none h k = tt
strictly x (image i c r) h k = (omega (arith, k.0, h _ (Memᴰ.head refl)), k.1)
strictly x (bracket g c r) h k = (omega (arith, k.0, h _ (Memᴰ.head refl)), k.1, k.2)

first_none : (p q : ℕ) → first_of p q ≡ 0 → (p ≡ 0) × (q ≡ 0)
first_none zero q e = (refl, e)
first_none (suc p) q e = absurd (omega arith)

module _ (n : ℕ) where
  -- no sibling has the far side of a vertex whose images are named once
  other-side : (v : Head) (r : Siblings) → HeadNamed n v → Named n r → Bushy r → ((m : ℕ) → head_occ v m + occ r m < 2)
      → Each (tops r) (λ X. X ≡ head_side v → ⊥)
  other-side v r h k b o X d e =
      let r_once : Once r = λ m. omega (arith, o m) in
      let j = bit-some n X (tops-some r b X d) (top_fits n r k r_once X d) in
      let y = top-occ n r X j.0 k r_once j.1 d j.2 in
      omega (arith, o j.0, head_bit n v j.0 h (λ m. omega (arith, o m)) j.1, ap (λ (x : ℕ). bit x j.0) e)

  pub no_fall : (p b : ℕ) (f : Siblings) → 1 ≤ p → Named n f → Once f → Bushy f → fall_from p b f ≡ 0 → Rising b f
  unfolding fall_from occ
  no_fall p b none l h o k e = tt
  no_fall p b (image i c r) l h o k e =
      let q = p + (length (decimal i) + (length (decimal c) + 2)) in
      let ih = no_fall q (image_side i) r (omega arith) h.2 (behind_once i c r o) k in
      cases (ltb (image_side i) b)
      (λ t. let z : p ≡ 0 = rw t at e in absurd (omega arith))
      (λ t. (ltb-false (image_side i) b t, strictly (image_side i) r (other-side (named i) r (h.0, h.1) h.2 k o) (ih (rw t at e))))
  no_fall p b (bracket g c r) l h o k e =
      let q = p + (length (listed 41 g) + (length (decimal c) + 3)) in
      let ih = no_fall q (side g) r (omega arith) h.1 (once_rest g r c o) k.2 in
      let jh = no_fall (suc p) 0 g (omega arith) h.0 (once_inner g r c o) k.1 in
      cases (ltb (side g) b)
      (λ t. let z : p ≡ 0 = rw t at e in absurd (omega arith))
      (λ t.
      let z = first_none (fall_from (suc p) 0 g) (fall_from q (side g) r) (rw t at e) in
      (ltb-false (side g) b t, jh z.0, strictly (side g) r (other-side (closed g) r h.0 h.1 k.2 o) (ih z.1)))

  pub rising_fall : (p b : ℕ) (f : Siblings) → Rising b f → fall_from p b f ≡ 0
  unfolding fall_from
  rising_fall p b none h = refl
  rising_fall p b (image i c r) h =
      let q = p + (length (decimal i) + (length (decimal c) + 2)) in
      rw (le-ltb (image_side i) b h.0) (rising_fall q (image_side i) r (rising_from (image_side i) (suc (image_side i)) r (omega arith) h.1))
  rising_fall p b (bracket g c r) h =
      let q = p + (length (listed 41 g) + (length (decimal c) + 3)) in
      rw (le-ltb (side g) b h.0, rising_fall (suc p) 0 g h.1) (rising_fall q (side g) r (rising_from (side g) (suc (side g)) r (omega arith) h.2))

pub rising_whole : (n : ℕ) (f : Siblings) → RisingTree f → fall f ≡ 0
rising_whole n none h = refl
rising_whole n (image i c r) h = rising_fall n _ 0 r h
rising_whole n (bracket g c r) h = refl
