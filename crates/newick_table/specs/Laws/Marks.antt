-- The images named on one way through a text: where none is named twice they are added up. Assumes nothing.
use Rattle.std.specs.Prelude.{List, ◌++◌, ◌∷◌, refl, ◌≡◌, suc, zero, ℕ, ◌*◌, ◌+◌, ◌-◌, ◌<◌, ◌^◌, ◌≤◌, eqb, length}
use Rattle.std.proofs.Common.{ap, ap₂, arith, length-append, eq-eqb, eqb-true, le-ltb, ne_eqb}
use Rattle.std.proofs.lemmas.Bool.{eqb-false}
use borrow.Table.Steps.{cases}
use Rattle.ground.specs.Bits.{bit}
use Rattle.ground.specs.Counts.{one_if}
use Rattle.ground.specs.Laws.Bits.{bit-add, bit_add_other, bit_none}
use Rattle.theory.specs.LinkTables.{Row}
use Rattle.newick_text.specs.Trees.{Siblings, bracket, image, none, size}
use Rattle.newick_text.specs.Profile.{Formed}
use Rattle.newick_text.specs.Tables.{image_side, names, rows, side}
use Rattle.newick_text.specs.Noting.{image_bit, mark, marked, noted}
use Rattle.newick_text.specs.Laws.Vertices.{Named, Once, occ}

-- no image of f is named in m or twice
abbrev pub New : ℕ → Siblings → Type 0
New m f = (j : ℕ) → bit m j + occ f j < 2

pub none_named : (f : Siblings) → Once f → New 0 f
none_named f o j = omega (arith, bit_none j, o j)

-- ## One image more

-- one that is not there
pub added_bit : (m i j : ℕ) → 1 ≤ i → bit m (i - 1) ≡ 0 → bit (image_side i + m) j ≡ bit m j + one_if (eqb i (suc j))
added_bit m zero j l b = absurd (omega arith)
added_bit m (suc k) j l b =
    let q : suc k - 1 ≡ k = omega arith in
    let e : bit m k ≡ 0 = rw q at b in
    rw q (cases (eqb (suc k) (suc j))
    (λ t. let z : j ≡ k = omega (arith, eqb-true (suc k) (suc j) t) in rw t (omega (arith, bit-add k m e, ap (λ (x : ℕ). bit (2 ^ k + m) x) z, ap (bit m) z)))
    (λ t. rw t (omega (arith, bit_add_other k m j e (λ z. eqb-false (suc k) (suc j) t (omega arith))))))

mark_new : (m i : ℕ) → i ≤ 64 → bit m (i - 1) ≡ 0 → mark m i ≡ image_side i + m
mark_new m i h b = rw (le-ltb 64 i h, ne_eqb (bit m (i - 1)) 1 (λ q. omega arith)) refl

pub image_is : (i : ℕ) → i ≤ 64 → image_bit i ≡ image_side i
image_is i h = rw (le-ltb 64 i h) refl

-- the image i is not there
unnamed : (m i c : ℕ) (r : Siblings) → 1 ≤ i → New m (image i c r) → bit m (i - 1) ≡ 0
unfolding occ
unnamed m zero c r l o = absurd (omega arith)
unnamed m (suc k) c r l o =
    let q : suc k - 1 ≡ k = omega arith in
    rw q (omega (arith, o k, ap one_if (eq-eqb (suc k) (suc k) refl)))

pub mark_is : (m i c : ℕ) (r : Siblings) → 1 ≤ i → i ≤ 64 → New m (image i c r) → mark m i ≡ image_side i + m
mark_is m i c r l h o = mark_new m i h (unnamed m i c r l o)

pub behind_new : (m i c : ℕ) (r : Siblings) → 1 ≤ i → i ≤ 64 → New m (image i c r) → New (mark m i) r
unfolding occ
behind_new m i c r l h o j =
    let z = unnamed m i c r l o in
    rw (mark_new m i h z) (omega (arith, added_bit m i j l z, o j))

-- ## All images of f more

inner_new : (m c : ℕ) (g r : Siblings) → New m (bracket g c r) → New m g
unfolding occ
inner_new m c g r o j = omega (arith, o j)

marked-bit : (m : ℕ) (f : Siblings) → Named 64 f → New m f → (j : ℕ) → bit (marked m f) j ≡ bit m j + occ f j
unfolding marked occ
marked-bit m none h o j = omega arith
marked-bit m (image i c r) h o j =
    let z = unnamed m i c r h.0 o in
    let ih = marked-bit (mark m i) r h.2 (behind_new m i c r h.0 h.1 o) j in
    omega (arith, ih, ap (λ (x : ℕ). bit x j) (mark_new m i h.1 z), added_bit m i j h.0 z)
marked-bit m (bracket g c r) h o j =
    let a = marked-bit m g h.0 (inner_new m c g r o) in
    omega (arith, a j, marked-bit (marked m g) r h.1 (λ k. omega (arith, a k, o k)) j)

pub inside_new : (m c : ℕ) (g r : Siblings) → Named 64 g → New m (bracket g c r) → New m g × New (marked m g) r
unfolding occ
inside_new m c g r h o = (inner_new m c g r o, λ k. omega (arith, marked-bit m g h (inner_new m c g r o) k, o k))

-- their far side is added
pub marked-side : (m : ℕ) (f : Siblings) → Named 64 f → New m f → marked m f ≡ m + side f
unfolding marked side
marked-side m none h o = omega arith
marked-side m (image i c r) h o =
    omega (arith, marked-side (mark m i) r h.2 (behind_new m i c r h.0 h.1 o), mark_is m i c r h.0 h.1 o)
marked-side m (bracket g c r) h o =
    let n = inside_new m c g r h.0 o in
    omega (arith, marked-side m g h.0 n.0, marked-side (marked m g) r h.1 n.1)

-- so the rows noted are the rows
pub noted-rows : (m : ℕ) (f : Siblings) → Named 64 f → New m f → noted m f ≡ rows f
unfolding noted rows
noted-rows m none h o = refl
noted-rows m (image i c r) h o =
    ap₂ (λ (x : ℕ) (l : List Row). (x, c) ∷ l) (image_is i h.1) (noted-rows (mark m i) r h.2 (behind_new m i c r h.0 h.1 o))
noted-rows m (bracket g c r) h o =
    let n = inside_new m c g r h.0 o in
    let e : marked m g - m ≡ side g = omega (arith, marked-side m g h.0 n.0) in
    ap₂ ◌++◌ (noted-rows m g h.0 n.0) (ap₂ (λ (x : ℕ) (l : List Row). (x, c) ∷ l) e (noted-rows (marked m g) r h.1 n.1))

-- ## How many rows

pub noted_few : (d m : ℕ) (f : Siblings) → Formed d f → length (noted m f) + size f ≤ 2 * length (names f)
unfolding noted names
noted_few d m none h = omega arith
noted_few d m (image i c r) h = omega (arith, noted_few d (mark m i) r h.2)
noted_few d m (bracket g c r) h =
    omega (
      arith,
      h.1,
      noted_few (suc d) m g h.2,
      noted_few d (marked m g) r h.4,
      length-append (names g) (names r),
      length-append (noted m g) ((marked m g - m, c) ∷ noted (marked m g) r),
    )
