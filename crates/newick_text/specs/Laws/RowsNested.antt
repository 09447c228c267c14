-- The images of the rows of vertices: any two rows are nested or disjoint. Assumes nothing.
use Rattle.std.specs.Prelude.{false, ◌≡◌, suc, ℕ, ◌+◌, ◌<◌, ◌^◌, eqb}
use mathlib.Core.List.Memᴰ
use mathlib.Core.List.{Memᴰ, [], ◌∷◌}
use Rattle.std.proofs.Common.{inl, inr, ap, arith, eqb-true}
use Rattle.std.proofs.lemmas.Bool.{eqb-false}
use borrow.Table.Steps.{cases}
use Rattle.ground.specs.Bits.{bit}
use Rattle.ground.specs.Counts.{one_if}
use Rattle.ground.specs.Filters.{Each}
use Rattle.ground.specs.Laws.Filters.{each_append, each_cons, each_nil}
use Rattle.ground.specs.Laws.Maps.{map-append}
use Rattle.theory.specs.FarSides.{Nested}
use Rattle.theory.specs.LinkTables.{Row, far, fars}
use Rattle.theory.specs.Laws.Nested.{bit-holds, bit_holds_not, holds_true}
use Rattle.links.specs.Laws.RowTests.{nested_sym}
use Rattle.newick_text.specs.Trees.{Siblings, bracket, image, none}
use Rattle.newick_text.specs.Tables.{image_side, rows, side}
use Rattle.newick_text.specs.Laws.Lists.{each_one, pairs_append}
use Rattle.newick_text.specs.Laws.Numbers.{zero_or_one}
use Rattle.newick_text.specs.Laws.Sides.{image_bit_lem, side-bit}
use Rattle.newick_text.specs.Laws.Vertices.{Named, Once, behind_once, occ, once_inner, once_rest}

-- ## Images of a row

-- if image m + 1 is in the row x, it is named
abbrev Names : Siblings → ℕ → Row → Type 0
Names f m x = bit x.0 m ≡ 1 → 0 < occ f m

rows-occ : (n : ℕ) (f : Siblings) (m : ℕ) → Named n f → Once f → m < n → Each (rows f) (Names f m)
unfolding occ rows
rows-occ n none m h o l = each_nil (Names none m)
rows-occ n (image i c r) m h o l =
    each_cons (Names (image i c r) m) (image_side i, c) (rows r) (λ b. omega (arith, image_bit_lem i m h.0))
    (λ x d b. omega (arith, rows-occ n r m h.2 (behind_once i c r o) l x d b))
rows-occ n (bracket g c r) m h o l =
    let P = Names (bracket g c r) m in
    each_append P (rows g) ((side g, c) ∷ rows r) (λ x d b. omega (arith, rows-occ n g m h.0 (once_inner g r c o) l x d b))
    (each_cons P (side g, c) (rows r) (λ b. omega (arith, side-bit n g h.0 (once_inner g r c o) m l))
    (λ x d b. omega (arith, rows-occ n r m h.1 (once_rest g r c o) l x d b)))

pub row-occ : (n : ℕ) (f : Siblings) (x : Row) (m : ℕ) → Named n f → Once f → m < n → Memᴰ x (rows f) → bit x.0 m ≡ 1 → 0 < occ f m
row-occ n f x m h o l d b = rows-occ n f m h o l x d b

-- a named image has its row
pub occ-row : (f : Siblings) (m : ℕ) → 0 < occ f m → Memᴰ (2 ^ m) (fars (rows f))
unfolding occ rows
occ-row none m h = absurd (omega arith)
occ-row (image i c r) m h =
    let ih = occ-row r m in
    cases (eqb i (suc m))
    (λ e. Memᴰ.head (ap (λ (x : ℕ). 2 ^ x) (omega (arith, eqb-true i (suc m) e))))
    (λ e. let k : 0 < one_if false + occ r m = rw e at h in Memᴰ.tail (ih (omega arith)))
occ-row (bracket g c r) m h =
    let ih = occ-row g m in
    let jh = occ-row r m in
    rw (map-append far (rows g) ((side g, c) ∷ rows r))
    (cases (eqb (occ g m) 0)
    (λ e. Memᴰ.append_right (fars (rows g)) (Memᴰ.tail (jh (omega (arith, eqb-true (occ g m) 0 e)))))
    (λ e. Memᴰ.append_left (side g ∷ fars (rows r)) (ih (omega (arith, eqb-false (occ g m) 0 e)))))

-- ## Nested or disjoint

abbrev Nest : ℕ → Row → Row → Type 0
Nest n x y = Nested n x.0 y.0

turned : (n : ℕ) (x y : Row) → Nest n x y → Nest n y x
turned n x y h = nested_sym n x.0 y.0 h

-- images that are named once, and here or there
disjoint : (n S R : ℕ) (p q : ℕ → ℕ) → ((m : ℕ) → p m + q m < 2)
    → ((m : ℕ) → m < n → bit S m ≡ 1 → 0 < p m) → ((m : ℕ) → m < n → bit R m ≡ 1 → 0 < q m) → Nested n S R
disjoint n S R p q o a b = inr (inr (λ i l h. bit_holds_not R i (zero_or_one R i (λ e. omega (arith, a i l (holds_true S i h), b i l e, o i)))))

pub rows_nested : (n : ℕ) (f : Siblings) → Named n f → Once f → Each (rows f) (λ x. Each (rows f) (λ y. Nested n x.0 y.0))
unfolding occ rows
rows_nested n none h o = each_nil (λ x. Each [] (Nest n x))
rows_nested n (image i c r) h o =
    let s : Row = (image_side i, c) in
    let o' = behind_once i c r o in
    pairs_append (Nest n) (turned n) (s ∷ []) (rows r) (each_one _ s (each_one (Nest n s) s (inl (λ k l t. t)))) (rows_nested n r h.2 o')
    (each_one _ s (λ y d.
    disjoint n (image_side i) y.0 (λ m. one_if (eqb i (suc m))) (occ r) o (λ m l b. omega (arith, image_bit_lem i m h.0))
    (λ m l b. row-occ n r y m h.2 o' l d b)))
rows_nested n (bracket g c r) h o =
    let s : Row = (side g, c) in
    let u = once_inner g r c o in
    let w = once_rest g r c o in
    let there : (y : Row) → Memᴰ y (rows r) → (m : ℕ) → m < n → bit y.0 m ≡ 1 → 0 < occ r m = λ y d m l b. row-occ n r y m h.1 w l d b in
    -- the bracket's own row is apart from those behind it
    let own : (y : Row) → Memᴰ y (rows r) → Nest n s y = λ y d.
    disjoint n (side g) y.0 (occ g) (occ r) o (λ m l b. omega (arith, side-bit n g h.0 u m l)) (there y d) in
    -- and contains those within it
    let within : (x : Row) → Memᴰ x (rows g) → Nest n x s = λ x d. inl (λ k l t.
    bit-holds (side g) k (omega (arith, row-occ n g x k h.0 u l d (holds_true x.0 k t), u k, side-bit n g h.0 u k l))) in
    let apart : (x : Row) → Memᴰ x (rows g) → (y : Row) → Memᴰ y (rows r) → Nest n x y = λ x d y e.
    disjoint n x.0 y.0 (occ g) (occ r) o (λ m l b. row-occ n g x m h.0 u l d b) (there y e) in
    pairs_append (Nest n) (turned n) (rows g) (s ∷ rows r) (rows_nested n g h.0 u)
    (pairs_append (Nest n) (turned n) (s ∷ []) (rows r) (each_one _ s (each_one (Nest n s) s (inl (λ k l t. t)))) (rows_nested n r h.1 w) (each_one _ s own))
    (λ x d. each_cons (Nest n x) s (rows r) (within x d) (apart x d))
