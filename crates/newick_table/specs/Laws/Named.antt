-- Which of the first 64 images are named in a text, however often, and whatever else is. Assumes nothing.
use Rattle.std.specs.Prelude.{Bool, false, true, ◌||◌, refl, ◌≡◌, suc, ℕ, ◌+◌, ◌-◌, ◌<◌, ◌≤◌, eqb, ltb}
use Rattle.std.proofs.Common.{ap, sym, ◌∙◌, arith, eqb-true, ltb-true}
use Rattle.std.proofs.lemmas.Bool.{eqb-false}
use borrow.Table.Steps.{cases}
use Rattle.ground.specs.Bits.{bit}
use Rattle.ground.specs.Counts.{one_if}
use Rattle.ground.specs.Members.{is_in}
use Rattle.ground.specs.Laws.Bits.{bit_lt}
use Rattle.theory.specs.FarSides.{holds}
use Rattle.newick_text.specs.Trees.{Siblings, bracket, image, none}
use Rattle.newick_text.specs.Profile.{Formed}
use Rattle.newick_text.specs.Tables.{names}
use Rattle.newick_text.specs.Noting.{mark, marked}
use Rattle.newick_text.specs.Laws.Lists.{is_in_append}
use Rattle.newick_text.specs.Laws.Numbers.{eqb_turn}
use Rattle.newick_table.specs.Laws.Marks.{added_bit}

one_of_them : (x y z : Bool) → ((x || y) || z) ≡ (x || (y || z))
one_of_them true y z = refl
one_of_them false y z = refl

or_none : (x : Bool) → x ≡ (x || false)
or_none true = refl
or_none false = refl

or_there : (x y : Bool) → (y ≡ true → x ≡ true) → x ≡ (x || y)
or_there true y h = refl
or_there false true h = h refl
or_there false false h = refl

mark-holds : (m i j : ℕ) → 1 ≤ i → j < 64 → holds (mark m i) j ≡ (holds m j || eqb (suc j) i)
mark-holds m i j l h =
    cases (ltb 64 i)
    (λ t. rw t (or_there (holds m j) (eqb (suc j) i) (λ e. absurd (omega (arith, ltb-true 64 i t, eqb-true (suc j) i e)))))
    (λ t. rw t (cases (holds m (i - 1))
    (λ u. rw u (or_there (holds m j) (eqb (suc j) i) (λ e. let z : i - 1 ≡ j = omega (arith, eqb-true (suc j) i e) in rw z at u)))
    (λ u. rw u (rw (added_bit m i j l (omega (arith, bit_lt m (i - 1), eqb-false (bit m (i - 1)) 1 u)), eqb_turn (suc j) i) (fresh u)))))
  where
    fresh : holds m (i - 1) ≡ false → eqb (bit m j + one_if (eqb i (suc j))) 1 ≡ (eqb (bit m j) 1 || eqb i (suc j))
    fresh u =
        cases (eqb i (suc j))
        (λ e.
        let z : i - 1 ≡ j = omega (arith, eqb-true i (suc j) e) in
        let b : bit m j ≡ 0 = omega (arith, bit_lt m j, eqb-false (bit m j) 1 (rw z at u)) in
        rw (e, b) refl)
        (λ e. let q : bit m j + 0 ≡ bit m j = omega arith in rw (e, q) (or_none (eqb (bit m j) 1)))

pub marked-names : (d m : ℕ) (f : Siblings) → Formed d f → (j : ℕ) → j < 64 → holds (marked m f) j ≡ (holds m j || is_in (suc j) (names f))
unfolding marked names
marked-names d m none h j l = or_none (holds m j)
marked-names d m (image i c r) h j l =
    marked-names d (mark m i) r h.2 j l ∙ ap (λ (x : Bool). x || is_in (suc j) (names r)) (mark-holds m i j h.0.0 l)
    ∙ one_of_them (holds m j) (eqb (suc j) i) (is_in (suc j) (names r))
marked-names d m (bracket g c r) h j l =
    marked-names d (marked m g) r h.4 j l ∙ ap (λ (x : Bool). x || is_in (suc j) (names r)) (marked-names (suc d) m g h.2 j l)
    ∙ one_of_them (holds m j) (is_in (suc j) (names g)) (is_in (suc j) (names r))
    ∙ ap (λ (x : Bool). holds m j || x) (sym (is_in_append (suc j) (names g) (names r)))
