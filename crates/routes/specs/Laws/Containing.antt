-- The rows of a link table by their numbers, counted from 0, and which of them contain which. Assumes nothing.
use Rattle.std.proofs.lemmas.Bool.{false≢true, eqb-false}
use Rattle.std.specs.Prelude.{true, List, ◌≡◌, suc, zero, ℕ, ◌+◌, ◌-◌, ◌<◌, ◌^◌, ◌≤◌, eqb, ltb, get_or, length}
use Rattle.std.proofs.Common.{inl, inr, sym, ◌∙◌, arith, eq-eqb, eqb-true, ltb-false, ltb-true}
use Rattle.std.proofs.lemmas.Nat.{and_le_r}
use Rattle.std.specs.Int.Bits.{bit_and}
use borrow.Table.Steps.{cases}
use Rattle.ground.specs.Members.{place_of}
use Rattle.theory.specs.FarSides.{FarSide, Nested, Within, holds, own}
use Rattle.theory.specs.Laws.Contained.{and_within, within_and}
use Rattle.theory.specs.Laws.FarSides.{far_image}
use Rattle.theory.specs.Laws.Nested.{bit-holds}
use Rattle.theory.specs.Laws.JoinedRows.{rows_of-fars}
use Rattle.theory.proofs.Laws.Routes.{full_contains}
use Rattle.theory.specs.Routes.{contains, uppers}
use Rattle.links.specs.Links.{Links}
use Rattle.links.specs.Laws.LinkChecks.{link_rows}
use Rattle.links.specs.Laws.RowTests.{GoodRow, mem-rows}
use Rattle.links.specs.Laws.Searches.{place_at}
use Rattle.routes.specs.Laws.Accepted.{few_rows, own-place}
use Rattle.climbing.specs.Laws.UpperRows.{upper-contains, upper_first, upper_later, upper-most}

-- the own link of image 0 contains every far side
pub full_contains_all : (n S : ℕ) → 3 ≤ n → FarSide n S → contains (own n 0) S ≡ true
full_contains_all zero S h f = absurd (omega arith)
full_contains_all (suc k) S h f = eq-eqb (bit_and S (own (suc k) 0)) S (full_contains k S f)

pub contains_le : (R S : ℕ) → contains R S ≡ true → S ≤ R
contains_le R S e = omega (arith, eqb-true (bit_and S R) S e, and_le_r S R)

pub contains-holds : (n R S i : ℕ) → i < n → contains R S ≡ true → holds S i ≡ true → holds R i ≡ true
contains-holds n R S i h e s = and_within n S R (eqb-true (bit_and S R) S e) i h s

within_contains : (n S R : ℕ) → S < 2 ^ n → Within n S R → contains R S ≡ true
within_contains n S R f w = eq-eqb (bit_and S R) S (within_and n S R f w)

module _ (L n N : ℕ) (l v : List ℕ) (t : Links L n N l v) where
  row : (k : ℕ) → k < N → GoodRow L n l v k
  row k h = link_rows L n l v (omega arith) t.table k (omega arith)

  pub row-side : (k : ℕ) → k < N → FarSide n (get_or l k 0)
  row-side k h = record { some = omega (arith, (row k h).above); fits = (row k h).fits; near = (row k h).near }

  pub rows_ascend : (j k : ℕ) → j < k → k < N → get_or l j 0 < get_or l k 0
  rows_ascend j zero a h = absurd (omega arith)
  rows_ascend j (suc k) a h =
      let s = (row (suc k) h).above in
      cases (eqb j k) (λ e. rw (eqb-true j k e) s)
      (λ e. omega (arith, rows_ascend j k (omega (arith, eqb-false j k e)) (omega arith)))

  rows_nested : (j k : ℕ) → j < N → k < N → Nested n (get_or l j 0) (get_or l k 0)
  rows_nested j k a b = t.table.nested _ (mem-rows l v j (omega arith) (omega arith)) _ (mem-rows l v k (omega arith) (omega arith))

  -- two rows that hold an image in common: the later contains the earlier
  pub later_contains : (i j k : ℕ) → i < n → j < k → k < N → holds (get_or l j 0) i ≡ true → holds (get_or l k 0) i ≡ true
      → contains (get_or l k 0) (get_or l j 0) ≡ true
  later_contains i j k h a b p q = go (rows_nested j k (omega arith) b)
    where
      go : Nested n (get_or l j 0) (get_or l k 0) → contains (get_or l k 0) (get_or l j 0) ≡ true
      go (inl w) = within_contains n (get_or l j 0) (get_or l k 0) (row j (omega arith)).fits w
      go (inr (inl w)) =
          absurd (omega (arith, rows_ascend j k a b, contains_le (get_or l j 0) (get_or l k 0) (within_contains n (get_or l k 0) (get_or l j 0) (row k b).fits w)))
      go (inr (inr w)) = absurd (false≢true (sym (w i h p) ∙ q))

  pub own_at : (i : ℕ) → i < n → get_or l (place_of 1 (own n i) l - 1) 0 ≡ own n i
  own_at i h = place_at 0 (own n i) l (rw (rows_of-fars l v (omega arith)) at (t.table.owns i h))

  -- the last row is the own link of image 0, at its place
  pub last_place : place_of 1 (own n 0) l ≡ N
  last_place =
      let p = own-place L n N l v t 0 (omega arith) in
      let e = own_at 0 (omega arith) in
      cases (ltb (place_of 1 (own n 0) l) N)
      (λ x. let a = ltb-true (place_of 1 (own n 0) l) N x in
      absurd (omega (
        arith,
        rows_ascend (place_of 1 (own n 0) l - 1) (N - 1) (omega arith) (omega arith),
        contains_le (own n 0) (get_or l (N - 1) 0)
            (full_contains_all n (get_or l (N - 1) 0) t.some (row-side (N - 1) (omega arith))),
      )))
      (λ x. omega (arith, ltb-false (place_of 1 (own n 0) l) N x))

  pub last_row_lem : get_or l (N - 1) 0 ≡ own n 0
  last_row_lem = let e = own_at 0 (omega arith) in rw last_place at e

  -- every other row has an upper row
  pub upper_there : (k : ℕ) → k + 1 < N → 0 < get_or (uppers l) k 0
  upper_there k h =
      (upper_first l k (omega arith) (N - 1) (omega arith) (omega arith)
      (rw last_row_lem (full_contains_all n (get_or l k 0) t.some (row-side k (omega arith))))).0

  -- and the last has none
  pub upper_none : get_or (uppers l) (N - 1) 0 ≡ 0
  upper_none =
      let c = few_rows L n N l v t in
      cases (eqb (get_or (uppers l) (N - 1) 0) 0) (λ e. eqb-true (get_or (uppers l) (N - 1) 0) 0 e)
      (λ e. absurd
      (omega (arith, upper_later l (N - 1) (omega arith) (omega (arith, eqb-false (get_or (uppers l) (N - 1) 0) 0 e)), upper-most l (N - 1) (omega arith))))

  -- the upper row is the smallest that contains the row: every other row that contains the row contains its upper row too
  pub upper-smallest : (k : ℕ) → k + 1 < N → (j : ℕ) → j < N → (j ≡ k → ⊥) → contains (get_or l j 0) (get_or l k 0) ≡ true
      → contains (get_or l j 0) (get_or l (get_or (uppers l) k 0 - 1) 0) ≡ true
  upper-smallest k h j b d e =
      let u = get_or (uppers l) k 0 in
      let a : k < length l = omega arith in
      let g = upper_there k h in
      let w = upper_later l k a g in
      let x = far_image n (get_or l k 0) (row-side k (omega arith)) in
      let i = x.0 in
      let s = bit-holds (get_or l k 0) i x.2 in
      cases (ltb k j)
      (λ y. let f = upper_first l k a j (ltb-true k j y) (omega arith) e in
      cases (eqb (u - 1) j)
      (λ z. rw (eqb-true (u - 1) j z) (within_contains n (get_or l j 0) (get_or l j 0) (row j b).fits (λ q o r. r)))
      (λ z. later_contains i (u - 1) j x.1 (omega (arith, eqb-false (u - 1) j z)) b
      (contains-holds n (get_or l (u - 1) 0) (get_or l k 0) i x.1 (upper-contains l k a g) s) (contains-holds n (get_or l j 0) (get_or l k 0) i x.1 e s)))
      (λ y. absurd (omega (arith, rows_ascend j k (omega (arith, ltb-false k j y)) (omega arith), contains_le (get_or l j 0) (get_or l k 0) e)))
