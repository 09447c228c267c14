-- The last row of a link table contains all others: the tree stands below it, and names every image but the first. Assumes nothing.
use Rattle.std.specs.Prelude.{false, true, ◌≡◌, suc, zero, ℕ, ◌+◌, ◌<◌, ◌^◌, ◌≤◌, eqb}
use Rattle.std.proofs.Math.Bool.{not}
use mathlib.Core.List.{List, Memᴰ, [], ◌++◌, ◌∷◌}
use Rattle.std.proofs.Math.Path.{ap, refl, sym}
use Rattle.std.proofs.Common.{subst, ◌∙◌, arith, eq-eqb, eqb-true}
use Rattle.std.specs.Int.Bits.{bit_and}
use borrow.Table.Steps.{cases}
use Rattle.ground.specs.Ascending.{Between}
use Rattle.ground.specs.Bits.{bit}
use Rattle.ground.specs.Counts.{one_if}
use Rattle.ground.specs.Filters.{Each}
use Rattle.ground.specs.Members.{is_in}
use Rattle.ground.specs.Laws.Maps.{map-mem}
use Rattle.ground.specs.Laws.Members.{is_in-mem, mem-is_in, mem_split}
use Rattle.theory.specs.FarSides.{FarSide, own}
use Rattle.theory.specs.LinkTables.{LinkTable, Row, far, fars}
use Rattle.theory.specs.Routes.{contains}
use Rattle.theory.proofs.Laws.Paths.{row-far}
use Rattle.theory.proofs.Laws.Routes.{full_contains}
use Rattle.newick_text.specs.Trees.{Siblings, add, bracket, image, none}
use Rattle.newick_text.specs.LinkTrees.{grown, head_of, image_of}
use Rattle.newick_text.specs.Laws.Numbers.{even_pow}
use Rattle.newick_text.specs.Laws.Parts.{part-all, part_none}
use Rattle.newick_text.specs.Laws.Stages.{grown-append, stage_all, stage_before}
use Rattle.newick_text.specs.Laws.Vertices.{occ, tops}

module _ (L n : ℕ) (few : n ≤ 64) (T : List Row) (t : LinkTable L n T) where
  -- the last row is all images but the first
  record Last : Type 0 where
    before : List Row
    row : Row
    cut : T ≡ before ++ (row ∷ [])
    full : row.0 ≡ own n 0

  last_row_lem : 1 ≤ n → Last
  last_row_lem h =
      let o = map-mem far T (own n 0) (t.owns 0 h) in
      let m = mem_split o.0 T o.2 in
      go o.0 m.0 m.1 m.2 (sym o.1)
    where
      go : (R : Row) (P Q : List Row) → T ≡ P ++ (R ∷ Q) → R.0 ≡ own n 0 → Last
      go R P [] e f = record { before = P; row = R; cut = e; full = f }
      go R P (X ∷ Q) e f =
          let i : Memᴰ X T = rw e (mathlib.Core.List.Memᴰ.append_right P (mathlib.Core.List.Memᴰ.tail (mathlib.Core.List.Memᴰ.head refl))) in
          let x = row-far L n T t X i in
          let l = later P 1 (subst (λ (l : List Row). Between 1 (fars l) (2 ^ n)) e t.ascending) in
          absurd (omega (arith, (even_pow n h).1, x.near, x.fits, f, l))
        where
          later : (P : List Row) (a : ℕ) → Between a (fars (P ++ (R ∷ X ∷ Q))) (2 ^ n) → R.0 < X.0
          later [] a b = b.1.0
          later (Y ∷ P) a b = later P (suc Y.0) b.1

  -- image m + 1 is named
  pub named-all : (m : ℕ) → 1 ≤ m → m < n → occ (grown none T) m ≡ 1
  named-all zero h l = absurd (omega arith)
  named-all (suc m) h l = (stage_all L n few T t).once (suc m) ∙ ap one_if (mem-is_in (2 ^ suc m) (fars T) (t.owns (suc m) l))

  pub named_not : occ (grown none T) 0 ≡ 0
  named_not = (stage_all L n few T t).once 0 ∙ ap one_if (cases (is_in 1 (fars T)) (λ e. absurd (odd (is_in-mem 1 (fars T) e))) (λ e. e))
    where
      odd : Memᴰ 1 (fars T) → ⊥
      odd d = let r = map-mem far T 1 d in omega (arith, (row-far L n T t r.0 r.2).near, ap (λ (x : ℕ). bit x 0) r.1)

  module _ (some : 3 ≤ n) where
    abbrev z : Last
    z = last_row_lem (omega arith)

    abbrev S : ℕ
    S = z.row.0

    abbrev c : ℕ
    c = z.row.1

    abbrev b : Siblings
    b = grown none z.before

    -- the last row contains all vertices
    all_within : Each (tops b) (λ X. contains S X ≡ true)
    all_within X d =
        let g = stage_before L n few T t z.before (z.row ∷ []) z.cut in
        let r = map-mem far z.before X (g.among X d) in
        let i = subst (λ (l : List Row). Memᴰ r.0 l) (sym z.cut) (mathlib.Core.List.Memᴰ.append_left (z.row ∷ []) r.2) in
        let x : FarSide n X = rw r.1 (row-far L n T t r.0 i) in
        rw z.full (eq-eqb _ X (contained n X (omega arith) x))
      where
        contained : (n X : ℕ) → 1 ≤ n → FarSide n X → bit_and X (own n 0) ≡ X
        contained zero X h x = absurd (omega arith)
        contained (suc k) X h x = full_contains k X x

    grown_last : grown none T ≡ add none (head_of S b) c
    unfolding grown
    grown_last =
        ap (grown none) z.cut
        ∙ grown-append none z.before (z.row ∷ [])
        ∙ rw (part_none (λ S. not (contains z.row.0 S)) b (λ X d. ap not (all_within X d)), part-all (contains S) b all_within) refl

    -- no image has two numbers
    only_one : (i : ℕ) → one_if (eqb i 2) + 0 ≡ 1 → one_if (eqb i 3) + 0 ≡ 1 → ⊥
    only_one i p q =
        cases (eqb i 2)
        (λ e. let k : one_if (eqb 2 3) + 0 ≡ 1 = subst (λ (x : ℕ). one_if (eqb x 3) + 0 ≡ 1) (eqb-true i 2 e) q in omega arith)
        (λ e. let k : one_if false + 0 ≡ 1 = rw e at p in omega arith)

    root : (f : Siblings) → b ≡ f → grown none T ≡ bracket b c none
    unfolding occ
    root none e =
        let k : image (image_of S) c none ≡ grown none T = sym (grown_last ∙ ap (λ (f : Siblings). add none (head_of S f) c) e) in
        absurd (only_one (image_of S)
        (ap (λ (f : Siblings). occ f 1) k ∙ named-all 1 (omega arith) (omega arith))
        (ap (λ (f : Siblings). occ f 2) k ∙ named-all 2 (omega arith) (omega arith)))
    root (image i d r) e = grown_last ∙ rw e refl
    root (bracket g d r) e = grown_last ∙ rw e refl

    pub root_is : (g : Siblings) × (d : ℕ) × (grown none T ≡ bracket g d none)
    root_is = (b, c, root b refl)
