-- The text of a link table has as many bytes as its rows say. Assumes nothing.
use Rattle.std.specs.Prelude.{Bool, false, true, List, [], ◌++◌, ◌∷◌, refl, ◌≡◌, suc, zero, ℕ, ◌+◌, ◌-◌, ◌<◌, ◌^◌, ◌≤◌, ltb}
use Rattle.std.proofs.Math.Path.{ap, subst}
use Rattle.std.proofs.Common.{sym, ◌∙◌, arith, length-append, eq-eqb, ltb-false, ltb-true}
use Rattle.std.specs.Int.Count.{ones}
use Rattle.std.proofs.Math.ListN.{length}
use borrow.Table.Steps.{cases}
use Rattle.ground.specs.Bits.{bit}
use Rattle.ground.specs.Counts.{one_if}
use Rattle.ground.specs.Laws.Ones.{ones_in_two}
use Rattle.ground.specs.Laws.Sums.{sum-append}
use Rattle.ground.specs.Members.{is_in}
use Rattle.ground.specs.Sums.{sum}
use Rattle.theory.specs.LinkTables.{LinkTable, Row, fars}
use Rattle.text.specs.Decimal.{decimal}
use Rattle.newick_text.specs.Laws.Vertices.{Bushy, Named, Once, Stage, occ}
use Rattle.newick_text.specs.Laws.Stages.{stage_all}
use Rattle.newick_text.specs.Laws.Root.{root_is}
use Rattle.newick_text.specs.Laws.Sides.{side-bit}
use Rattle.newick_text.specs.Tables.{image_side, insert, row_le, rows, side, sorted}
use Rattle.newick_text.specs.LinkTrees.{newick, rooted}
use Rattle.newick_text.specs.Trees.{Siblings, behind, bracket, image, listed, none, size, text}
use Rattle.newick_writer.specs.Bytes.{head_bytes, row_bytes, text_bytes}
use Rattle.newick_writer.specs.Laws.Summing.{more-images, one-digit, one_image_lem}

-- ## The order of rows plays no part

insert-sum : (g : Row → ℕ) (a : Row) (l : List Row) → sum (insert a l) g ≡ g a + sum l g
unfolding insert
insert-sum g a [] = refl
insert-sum g a (x ∷ l) = let ih = insert-sum g a l in cases (row_le a x) (λ e. rw e refl) (λ e. rw e (omega arith))

pub sorted-sum : (g : Row → ℕ) (l : List Row) → sum (sorted l) g ≡ sum l g
unfolding sorted
sorted-sum g [] = refl
sorted-sum g (a ∷ l) = omega (arith, insert-sum g a (sorted l), sorted-sum g l)

-- ## Images that are named

image_bytes : (n i : ℕ) → n ≤ 64 → 1 ≤ i → i ≤ n → head_bytes (image_side i) ≡ length (decimal i)
image_bytes n zero f l h = absurd (omega arith)
image_bytes n (suc j) f l h = let e : suc j - 1 ≡ j = omega arith in rw e (one_image_lem j (omega arith))

-- an image that is named
record Some (n : ℕ) (f : Siblings) : Type 0 where
  place : ℕ
  fits : place < n
  named : 0 < occ f place

some_image : (n i c : ℕ) → 1 ≤ i → i ≤ n → Some n (image i c none)
unfolding occ
some_image n zero c l h = absurd (omega arith)
some_image n (suc j) c l h = record { place = j; fits = omega arith; named = omega (arith, ap one_if (eq-eqb (suc j) (suc j) refl)) }

some-named : (n : ℕ) (f : Siblings) → 1 ≤ size f → Named n f → Bushy f → Some n f
unfolding occ
some-named n none k h b = absurd (omega arith)
some-named n (image i c r) k h b =
    let s = some_image n i c h.0 h.1 in record { place = s.place; fits = s.fits; named = omega (arith, s.named) }
some-named n (bracket g c r) k h b =
    let s = some-named n g (omega (arith, b.0)) h.0 b.1 in record { place = s.place; fits = s.fits; named = omega (arith, s.named) }

-- an image of each of two parts makes two
two_parts : (n : ℕ) (f p q : Siblings) → ((m : ℕ) → occ f m ≡ occ p m + occ q m) → Named n f → Once f → Some n p → Some n q → 2 ≤ ones (side f)
two_parts n f p q e h o a b =
    let i = a.place in
    let j = b.place in
    let x : bit (side f) i ≡ 1 = side-bit n f h o i a.fits ∙ omega (arith, a.named, e i, o i) in
    let y : bit (side f) j ≡ 1 = side-bit n f h o j b.fits ∙ omega (arith, b.named, e j, o j) in
    cases (ltb i j) (λ t. ones_in_two i j (side f) (ltb-true i j t) x y)
    (λ t. cases (ltb j i) (λ u. ones_in_two j i (side f) (ltb-true j i u) y x)
    (λ u. let z : i ≡ j = omega (arith, ltb-false i j t, ltb-false j i u) in
    absurd (omega (arith, a.named, b.named, e i, o i, ap (occ q) z))))

-- so a bracket has two images or more
pub bracket_ones : (n : ℕ) (g : Siblings) → 2 ≤ size g → Named n g → Once g → Bushy g → 2 ≤ ones (side g)
unfolding occ
bracket_ones n none k h o b = absurd (omega arith)
bracket_ones n (image i c r) k h o b =
    two_parts n (image i c r) (image i c none) r (λ m. omega arith) h o (some_image n i c h.0 h.1) (some-named n r (omega arith) h.2 b)
bracket_ones n (bracket g c r) k h o b =
    let s = some-named n g (omega (arith, b.0)) h.0 b.1 in
    two_parts n (bracket g c r) g r (λ m. refl) h o s (some-named n r (omega arith) h.1 b.2)

-- ## The bytes of vertices are those of their rows

listed-bytes : (n : ℕ) → n ≤ 64 → (e : ℕ) (f : Siblings) → Named n f → Once f → Bushy f → length (listed e f) ≡ sum (rows f) row_bytes
unfolding listed rows occ row_bytes
listed-bytes n few e none h o b = refl
listed-bytes n few e (image i c r) h o b =
    let ih = listed-bytes n few e r h.2 (λ m. omega (arith, o m)) b in
    let x = length-append (decimal i) (58 ∷ (decimal c ++ (behind e r ∷ listed e r))) in
    omega (arith, ih, x, length-append (decimal c) (behind e r ∷ listed e r), image_bytes n i few h.0 h.1)
listed-bytes n few e (bracket g c r) h o b =
    let a = listed-bytes n few 41 g h.0 (λ m. omega (arith, o m)) b.1 in
    let ih = listed-bytes n few e r h.1 (λ m. omega (arith, o m)) b.2 in
    let x = length-append (listed 41 g) (58 ∷ (decimal c ++ (behind e r ∷ listed e r))) in
    let k = more-images (side g) (bracket_ones n g b.0 h.0 (λ m. omega (arith, o m)) b.1) in
    let z = sum-append row_bytes (rows g) ((side g, c) ∷ rows r) in
    omega (arith, a, ih, x, length-append (decimal c) (behind e r ∷ listed e r), k, z)

-- those of a whole tree are those of its table
tree_bytes : (n : ℕ) → n ≤ 64 → (c : ℕ) (g : Siblings) → Named n g → Once g → Bushy g → 2 ≤ size g
    → length (text (image 1 c g)) ≡ text_bytes (rows (bracket g c none))
unfolding listed rows row_bytes
tree_bytes n few c g h o b k =
    let a = listed-bytes n few 41 g h o b in
    let x = length-append (decimal 1) (58 ∷ (decimal c ++ (behind 41 g ∷ listed 41 g))) in
    let y = length-append (listed 41 (image 1 c g)) (59 ∷ []) in
    let one : length (decimal 1) ≡ 1 = one-digit 1 (omega arith) in
    let z = sum-append row_bytes (rows g) ((side g, c) ∷ []) in
    let w = more-images (side g) (bracket_ones n g k h o b) in
    omega (arith, a, x, y, one, z, w, length-append (decimal c) (behind 41 g ∷ listed 41 g))

below_two : (b : Bool) → one_if b < 2
below_two true = omega arith
below_two false = omega arith

module _ (L n : ℕ) (few : n ≤ 64) (T : List Row) (t : LinkTable L n T) (some : 3 ≤ n) where
  pub text-bytes : length (newick T) ≡ text_bytes T
  unfolding occ
  text-bytes =
      let r = root_is L n few T t some in
      let g = r.0 in
      let c = r.1 in
      let s : Stage n T (bracket g c none) = subst (Stage n T) r.2 (stage_all L n few T t) in
      let o : Once g = λ m. omega (arith, s.once m, below_two (is_in (2 ^ m) (fars T))) in
      ap length (ap text (ap rooted r.2)) ∙ tree_bytes n few c g s.named.0 o s.bushy.1 s.bushy.0
      ∙ ap (λ (x : ℕ). 2 + x) (sym (sorted-sum row_bytes (rows (bracket g c none)))) ∙ ap text_bytes s.rowed
