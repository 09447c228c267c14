-- The vertices that a row of a link table takes: just those that make it up. Assumes nothing.
use Rattle.std.specs.Prelude.{Bool, not, true, ◌⊎◌, refl, ◌≡◌, suc, zero, ℕ, ◌<◌, ◌^◌, eqb}
use Rattle.std.proofs.lemmas.Bool.{false≢true}
use mathlib.Core.List.{List, Memᴰ, ◌++◌, ◌∷◌}
use Rattle.std.proofs.Common.{inl, inr, subst, ◌∙◌, arith}
use Rattle.std.proofs.Math.Path.{ap, sym}
use borrow.Author.Tests.{eqb-false, eqb-true, not-true}
use borrow.Table.Steps.{cases}
use Rattle.ground.specs.Ascending.{Between}
use Rattle.ground.specs.Bits.{bit}
use Rattle.ground.specs.Counts.{one_if}
use Rattle.ground.specs.Filters.{Each}
use Rattle.ground.specs.Members.{is_in}
use Rattle.ground.specs.Laws.Ascending.{between_mem}
use Rattle.ground.specs.Laws.Bits.{bit_lt, bit_pow_other, bit-some}
use Rattle.ground.specs.Laws.Counts.{one_if_le}
use Rattle.ground.specs.Laws.Filters.{filter-mem}
use Rattle.ground.specs.Laws.Maps.{map-append, map-mem}
use Rattle.ground.specs.Laws.Members.{mem-is_in}
use Rattle.theory.specs.FarSides.{FarSide, Nested}
use Rattle.theory.specs.LinkTables.{LinkTable, Row, far, fars}
use Rattle.theory.specs.Routes.{contains}
use Rattle.theory.proofs.Laws.Paths.{row-far}
use Rattle.newick_text.specs.Trees.{Siblings, none}
use Rattle.newick_text.specs.Tables.{side}
use Rattle.newick_text.specs.LinkTrees.{part}
use Rattle.newick_text.specs.Laws.Containing.{contains-bit, share_contains}
use Rattle.newick_text.specs.Laws.Lists.{between_split}
use Rattle.newick_text.specs.Laws.Numbers.{bit_pow_le, zero_or_one}
use Rattle.newick_text.specs.Laws.Parts.{part-named, part-occ, part_once, part-tops}
use Rattle.newick_text.specs.Laws.Sides.{not_held, side_is}
use Rattle.newick_text.specs.Laws.Vertices.{Once, Stage, occ, tops}

-- the vertices that a row with the far side S takes, and the others
abbrev pub taken : ℕ → Siblings → Siblings
taken S f = part (contains S) f

abbrev pub others : ℕ → Siblings → Siblings
others S f = part (λ X. not (contains S X)) f

pub taken-top : (S : ℕ) (f : Siblings) → Each (tops (taken S f)) (λ X. (contains S X ≡ true) × Memᴰ X (tops f))
taken-top S f X d = filter-mem (contains S) (tops f) X (rw part-tops at d)

pub others-top : (S : ℕ) (f : Siblings) → Each (tops (others S f)) (λ X. (not (contains S X) ≡ true) × Memᴰ X (tops f))
others-top S f X d = filter-mem (λ X. not (contains S X)) (tops f) X (rw part-tops at d)

-- what a row with the far side S finds among the vertices f of the rows P before it
pub record Takes (n : ℕ) (P : List Row) (S : ℕ) (f : Siblings) : Type 0 where
  pub ascends : Between 1 (fars P) S
  pub less : Each (tops f) (λ X. X < S)
  -- where it takes none, it is an own link; where it takes some, it is no own link, and they make it up
  pub single : taken S f ≡ none → (m : ℕ) × (m < n) × (S ≡ 2 ^ m)
  pub joint : Each (tops (taken S f)) (λ X. (m : ℕ) → 2 ^ m ≡ S → ⊥)
  pub made : Each (tops (taken S f)) (λ X. side (taken S f) ≡ S)

-- what is known of a vertex's far side
record Top (n S X : ℕ) : Type 0 where
  less : X < S
  fits : FarSide n X
  nested : Nested n X S

module _ (L n : ℕ) (T : List Row) (t : LinkTable L n T) (P Q : List Row) (R : Row) (cut : T ≡ P ++ (R ∷ Q)) (f : Siblings) (g : Stage n P f) where
  abbrev S : ℕ
  S = R.0

  ascends : Between 1 (fars P) S × Between (suc S) (fars Q) (2 ^ n)
  ascends =
      let e = ap fars cut ∙ map-append far P (R ∷ Q) in
      between_split 1 S (2 ^ n) (fars P) (fars Q) (subst (λ (l : List ℕ). Between 1 l (2 ^ n)) e t.ascending)

  r_in : Memᴰ R T
  r_in = rw cut (mathlib.Core.List.Memᴰ.append_right P (mathlib.Core.List.Memᴰ.head refl))

  far_s : FarSide n S
  far_s = row-far L n T t R r_in

  top : (X : ℕ) → Memᴰ X (tops f) → Top n S X
  top X m =
      let d = g.among X m in
      let r = map-mem far P X d in
      let i : Memᴰ r.0 T = rw cut (mathlib.Core.List.Memᴰ.append_left (R ∷ Q) r.2) in
      record {
        less = (between_mem 1 S (fars P) ascends.0 X d).1;
        fits = rw r.1 (row-far L n T t r.0 i);
        nested = rw r.1 (t.nested r.0 i R r_in);
      }

  f_once : Once f
  f_once m = rw (g.once m) (omega (arith, one_if_le (is_in (2 ^ m) (fars P))))

  -- an own link below the row has been seen
  seen-own : (m : ℕ) → m < n → bit S m ≡ 1 → (2 ^ m ≡ S → ⊥) → occ f m ≡ 1
  seen-own zero l b d = absurd (omega (arith, far_s.near))
  seen-own (suc m) l b d =
      let o = subst (λ (k : List ℕ). Memᴰ (2 ^ suc m) k) (ap fars cut ∙ map-append far P (R ∷ Q)) (t.owns (suc m) l) in
      g.once (suc m) ∙ ap one_if (mem-is_in (2 ^ suc m) (fars P) (go (mathlib.Core.List.Memᴰ.append_cases (fars P) o)))
    where
      go : Memᴰ (2 ^ suc m) (fars P) ⊎ Memᴰ (2 ^ suc m) (S ∷ fars Q) → Memᴰ (2 ^ suc m) (fars P)
      go (inl x) = x
      go (inr (mathlib.Core.List.Memᴰ.head e)) = absurd (d e)
      go (inr (mathlib.Core.List.Memᴰ.tail y)) = absurd (omega (arith, bit_pow_le S (suc m) b, between_mem (suc S) (2 ^ n) (fars Q) ascends.1 (2 ^ suc m) y))

  -- the vertices that it takes have just its images: one that shares an image with it is within it
  cover : (m : ℕ) → m < n → bit S m ≡ 1 → (2 ^ m ≡ S → ⊥) → occ (taken S f) m ≡ 1
  cover m l b d =
      let p : ℕ → Bool = λ X. not (contains S X) in
      let o = not_held n (others S f) m (part-named n p f g.named) (part_once p f f_once) l (λ X x.
      let k = others-top S f X x in
      let h = top X k.1 in
      zero_or_one X m (λ e.
      false≢true (sym (not-true (contains S X) k.0) ∙ share_contains n S X m far_s.fits h.fits.fits h.less l e b h.nested))) in
      omega (arith, part-occ (contains S) f m, seen-own m l b d, o)

  uncover : (m : ℕ) → m < n → bit S m ≡ 0 → occ (taken S f) m ≡ 0
  uncover m l b =
      not_held n (taken S f) m (part-named n (contains S) f g.named) (part_once (contains S) f f_once) l (λ X x.
      zero_or_one X m (λ e. omega (arith, b, contains-bit n S X m l (taken-top S f X x).0 e)))

  not_single : Each (tops (taken S f)) (λ X. (m : ℕ) → 2 ^ m ≡ S → ⊥)
  not_single X d m e =
      let k = taken-top S f X d in
      let x = top X k.1 in
      let j = bit-some n X x.fits.some x.fits.fits in
      let b = contains-bit n S X j.0 j.1 k.0 j.2 in
      cases (eqb m j.0)
      (λ q. omega (arith, bit_pow_le X j.0 j.2, x.less, e, ap (λ (y : ℕ). 2 ^ y) (eqb-true m j.0 q)))
      (λ q. omega (arith, b, ap (λ (y : ℕ). bit y j.0) e, bit_pow_other m j.0 (eqb-false m j.0 q)))

  pub takes : Takes n P S f
  unfolding occ
  takes = record {
    ascends = ascends.0;
    less = λ X d. (top X d).less;
    single = λ e.
        let j = bit-some n S far_s.some far_s.fits in (
          j.0,
          j.1,
          cases (eqb (2 ^ j.0) S) (λ q. sym (eqb-true (2 ^ j.0) S q))
              (λ q. absurd (omega (arith, cover j.0 j.1 j.2 (eqb-false (2 ^ j.0) S q), ap (λ (h : Siblings). occ h j.0) e))),
        );
    joint = not_single;
    made = λ X d.
        side_is n (taken S f) S (part-named n (contains S) f g.named) (part_once (contains S) f f_once) far_s.fits (λ m l.
        cases (eqb (bit S m) 1)
        (λ e. let b = eqb-true (bit S m) 1 e in cover m l b (not_single X d m) ∙ sym b)
        (λ e. let b : bit S m ≡ 0 = omega (arith, eqb-false (bit S m) 1 e, bit_lt S m) in uncover m l b ∙ sym b));
  }
