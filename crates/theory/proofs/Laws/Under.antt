-- Law P1: a division of index v that parts i and j has v places between them, so no path cost is above twice the entry.
-- Assumes nothing.
use Rattle.std.specs.Prelude.{List, refl, ◌≡◌, ℕ, ◌%◌, ◌*◌, ◌+◌, ◌-◌, ◌<◌, ◌^◌, ◌≤◌, eqb, ltb}
use Rattle.std.proofs.Common.{◌∙◌, le_trans, arith, eq-eqb, eqb-true, le-ltb, lt-ltb, ltb-false, ltb-true}
use Rattle.std.proofs.lemmas.Bool.{eqb-false}
use borrow.Table.Steps.{cases}
use Rattle.ground.specs.Ascending.{Between}
use Rattle.ground.specs.Bits.{bit}
use Rattle.ground.specs.Laws.Bits.{bit_ext, bit_lt}
use Rattle.ground.specs.Laws.Counts.{count-row, sum-count}
use Rattle.ground.specs.Filters.{Each}
use Rattle.ground.specs.Least.{On, least_on}
use Rattle.ground.specs.Laws.Least.{le_least_on, least_on_le}
use Rattle.ground.specs.Sums.{sum, when}
use Rattle.ground.specs.Laws.Sums.{sum_le, sum-map}
use Rattle.theory.specs.FarSides.{FarSide}
use Rattle.theory.specs.Index.{AtLeast, clipped}
use Rattle.theory.proofs.Laws.Index.{clipped_low}
use Rattle.theory.proofs.Laws.OneTree.{rows_between, rows-far}
use Rattle.theory.specs.Laws.Positions.{apart-bits, bit-code, code, code_lt, cut, found, place, pos}
use Rattle.theory.specs.LinkTables.{apart, path}
use Rattle.theory.specs.Readings.{measured, row, rows}
use Rattle.theory.specs.Tables.{WellFormed}

module _ (L : ℕ) (d : ℕ → ℕ → ℕ) (n i j S v : ℕ) (c : WellFormed L d n) (hi : i < n) (hj : j < n) (f : FarSide n S)
    (p : AtLeast d n (bit S) v) (parted : bit S i ≡ bit S j → ⊥) where
  -- what is on j's side stands v behind what is on i's
  across : {a b : ℕ} → On n (bit S) (bit S i) a → On n (bit S) (bit S j) b → v + pos L d i j a ≤ pos L d i j b
  across {a} {b} ha hb =
      cases (eqb (bit S i) 0)
      (λ e.
      let i0 = eqb-true (bit S i) 0 e in
      let j1 : bit S j ≡ 1 = omega (arith, bit_lt S j) in
      omega (arith, p.low (hi, i0) (ha.0, ha.1 ∙ i0) (hb.0, hb.1 ∙ j1) (hj, j1), known))
      (λ e.
      let i1 : bit S i ≡ 1 = omega (arith, eqb-false, bit_lt S i) in
      let j0 : bit S j ≡ 0 = omega (arith, bit_lt S j) in
      omega (arith, p.low (hb.0, hb.1 ∙ j0) (hj, j0) (hi, i1) (ha.0, ha.1 ∙ i1), known))
    where
      known : (d b j ≡ d j b) × (d a j ≡ d j a) × (d b i ≡ d i b) × (d j a ≤ L) × (d j b ≤ L)
      known = (c.same hb.0 hj, c.same ha.0 hj, c.same hb.0 hi, c.small hj ha.0, c.small hj hb.0)

  -- the first place on j's side
  abbrev first : ℕ
  first = least_on n (bit S) (bit S j) (pos L d i j j) (pos L d i j)

  first_le : {b : ℕ} → On n (bit S) (bit S j) b → first ≤ pos L d i j b
  first_le {b} o = least_on_le (bit S) (bit S j) (pos L d i j j) (pos L d i j) n b o

  le_first : {a : ℕ} → On n (bit S) (bit S i) a → v + pos L d i j a ≤ first
  le_first {a} o = le_least_on (bit S) (bit S j) (pos L d i j j) (pos L d i j) n (v + pos L d i j a) (across o (hj, refl)) (λ b h. across o h)

  -- at each of the v places below it the images part as S parts them
  module _ (t : ℕ) (lo : first ≤ t + v) (up : t < first) where
    cut_is : (a : ℕ) → a < n → cut L d i j t a ≡ (bit S a + bit S i) % 2
    cut_is a h =
        cases (eqb (bit S a) (bit S i))
        (λ e. rw (le-ltb t (pos L d i j a) (omega (arith, le_first (h, eqb-true (bit S a) (bit S i) e)))) (omega (arith, eqb-true)))
        (λ e.
        let f : bit S a ≡ bit S j = omega (arith, eqb-false, bit_lt S a, bit_lt S i, bit_lt S j) in
        rw (lt-ltb t (pos L d i j a) (omega (arith, first_le (h, f)))) (omega (arith, eqb-false, bit_lt S a, bit_lt S i)))

    code_is : code L d n i j t ≡ S
    code_is =
        bit_ext n (code L d n i j t) S (code_lt L d n i j t) f.fits (λ m h.
        omega (arith, bit-code L d n i j t m h, cut_is m h, cut_is 0 (omega arith), f.near, bit_lt S i, bit_lt S m))

  -- so at least v of the 2 d i j places between i and j are S's
  places : v ≤ found L d n i j S
  places =
      count-row (λ t. eqb (code L d n i j (pos L d i j i + t)) S) (2 * d i j) (first - (v + pos L d i j i)) v
      (λ t lo up. eq-eqb (code L d n i j (pos L d i j i + t)) S (code_is (pos L d i j i + t) (omega arith) (omega (arith, le_first (hi, refl)))))
      (omega (arith, le_first (hi, refl), first_le (hj, refl), c.self hi, c.self hj, c.same hi hj, c.small hi hj))

-- ## The 2 d i j places between i and j

module _ (L : ℕ) (d : ℕ → ℕ → ℕ) (n i j : ℕ) (c : WellFormed L d n) (hi : i < n) (hj : j < n) where
  -- P1: as many as its index, at least, if it parts i and j
  one-row : (S : ℕ) → FarSide n S → when (apart S i j) (clipped L d n (bit S)) ≤ found L d n i j S
  one-row S f =
      cases (apart S i j)
      (λ e. rw e (cases (ltb 0 (clipped L d n (bit S)))
      (λ g. places L d n i j S (clipped L d n (bit S)) c hi hj f (clipped_low L d n (bit S) c (ltb-true 0 (clipped L d n (bit S)) g)) (apart-bits S i j e))
      (λ g. omega (arith, ltb-false 0 (clipped L d n (bit S)) g))))
      (λ e. rw e (omega arith))

  -- so over any strictly ascending far sides
  pub path_under : (l : List ℕ) (m k : ℕ) → Between m l k → Each l (FarSide n) → sum l (λ S. when (apart S i j) (clipped L d n (bit S))) ≤ 2 * d i j
  path_under l m k b h =
      le_trans (sum_le (λ S. when (apart S i j) (clipped L d n (bit S))) (found L d n i j) l (λ S s. one-row S (h S s)))
      (sum-count (place L d n i j) m k (2 * d i j) l b)

-- P1. On every well-formed table no path cost is above twice the entry.
pub measured_under : (L : ℕ) (d : ℕ → ℕ → ℕ) (n i j : ℕ) → WellFormed L d n → i < n → j < n → path (measured L d n) i j ≤ 2 * d i j
measured_under L d n i j c hi hj =
    rw (sum-map (row L d n) (λ r. when (apart r.0 i j) r.1) (rows L d n))
    (path_under L d n i j c hi hj (rows L d n) 1 (2 ^ n) (rows_between L d n c) (λ S m. (rows-far L d n c S m).1))
