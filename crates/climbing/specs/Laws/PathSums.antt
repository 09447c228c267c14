-- A path cost summed row by row, and that it is small. Assumes nothing.
use Rattle.std.specs.Prelude.{not, List, [], ◌∷◌, refl, ◌≡◌, ℕ, ◌*◌, ◌+◌, ◌<◌, ◌≤◌, eqb, drop, get_or, length}
use mathlib.Core.List.Memᴰ
use Rattle.std.proofs.Common.{suc-mul, add-one, arith, drop_of_length-le, drop-cons, eq-eqb, eqb-true, ne_eqb}
use Rattle.std.proofs.lemmas.Bool.{eqb-false}
use borrow.Table.Steps.{cases}
use Rattle.ground.specs.Bits.{bit}
use Rattle.ground.specs.Laws.Bits.{bit_lt}
use Rattle.ground.specs.Filters.{Each}
use Rattle.ground.specs.Sums.{when}
use Rattle.theory.proofs.Laws.RowCount.{row_count}
use Rattle.theory.specs.LinkTables.{Row, apart, path, rows_of}
use Rattle.theory.specs.Tables.{limit}
use Rattle.links.specs.Links.{Links}

-- exactly one of two images is held: their bits differ
pub apart-bits : (S i j : ℕ) → apart S i j ≡ not (eqb (bit S i) (bit S j))
apart-bits S i j =
    cases (eqb (bit S i) 1)
    (λ e. cases (eqb (bit S j) 1)
    (λ f. rw (e, f, eq-eqb (bit S i) (bit S j) (omega (arith, eqb-true (bit S i) 1 e, eqb-true (bit S j) 1 f))) refl)
    (λ f. rw (e, f, ne_eqb (bit S i) (bit S j) (λ z. omega (arith, eqb-true (bit S i) 1 e, eqb-false (bit S j) 1 f))) refl))
    (λ e. cases (eqb (bit S j) 1)
    (λ f. rw (e, f, ne_eqb (bit S i) (bit S j) (λ z. omega (arith, eqb-false (bit S i) 1 e, eqb-true (bit S j) 1 f))) refl)
    (λ f. rw (e, f, eq-eqb (bit S i) (bit S j) (omega (arith, eqb-false (bit S i) 1 e, eqb-false (bit S j) 1 f, bit_lt S i, bit_lt S j))) refl))

-- ## The loop: the sum so far and the path cost of the rest are the whole

module _ (l v : List ℕ) (same : length l ≡ length v) (i j k a b : ℕ) (e : a + path (rows_of (drop k l) (drop k v)) i j ≡ b) where
  pub path-more : k < length l → a + when (apart (get_or l k 0) i j) (get_or v k 0) + path (rows_of (drop (k + 1) l) (drop (k + 1) v)) i j ≡ b
  path-more h =
      let g : k < length v = omega arith in
      let q = rw (drop-cons l k 0 h, drop-cons v k 0 g) at e in
      rw add-one (omega arith)

  pub path_end : length l ≤ k → a ≡ b
  path_end h = let q = rw (drop_of_length-le l {i = k} h) at e in omega arith

-- ## Each row adds at most the highest cost

pub path-most : (M : ℕ) (T : List Row) (i j : ℕ) → Each T (λ r. r.1 ≤ M) → path T i j ≤ length T * M
path-most M [] i j h = omega arith
path-most M (r ∷ T) i j h =
    let ih = path-most M T i j (λ q m. h q (Memᴰ.tail m)) in
    let b = h r (Memᴰ.head refl) in
    rw suc-mul (cases (apart r.0 i j) (λ e. rw e (omega arith)) (λ e. rw e (omega arith)))

-- at most 125 rows with costs of at most twice the limit
pub path_fits : (n N : ℕ) (l v : List ℕ) → Links limit n N l v → (i j : ℕ) → path (rows_of l v) i j ≤ 250 * limit
path_fits n N l v t i j =
    let e : length l ≡ length v = omega arith in
    let c = row_count limit n (rows_of l v) t.some t.table in
    let k : length (rows_of l v) ≤ 125 = omega arith in
    omega (arith, path-most (2 * limit) (rows_of l v) i j t.table.small)
