-- Law P2: under the four-point condition every place between i and j is a row's, so path costs are twice the entries.
-- Assumes nothing.
use mathlib.Core.List.{Memᴰ}
use Rattle.std.proofs.Common.{ap, subst, sym, ◌∙◌, le_antisymm, le_trans, arith, eq-eqb, eqb-true, le-ltb, leb-false, leb-true, lt-ltb}
use Rattle.std.specs.Prelude.{◌≡◌, suc, zero, ℕ, ◌*◌, ◌+◌, ◌<◌, ◌≤◌, eqb, leb}
use Rattle.std.proofs.lemmas.Bool.{eqb-false}
use borrow.Table.Steps.{cases}
use Rattle.ground.specs.Bits.{bit}
use Rattle.ground.specs.Laws.Bits.{bit_lt, bit_none}
use Rattle.ground.specs.Laws.Counts.{count-row, count_within, sum_count_all}
use Rattle.ground.specs.Filters.{filter}
use Rattle.ground.specs.Laws.Filters.{filter-mem, mem-filter}
use Rattle.ground.specs.Least.{On}
use Rattle.ground.specs.Sums.{sum, when}
use Rattle.ground.specs.Laws.Sums.{sum-filter, sum_le, sum-map}
use Rattle.theory.specs.FarSides.{FarSide}
use Rattle.theory.specs.FourPoint.{FourPoint}
use Rattle.theory.specs.Index.{AtLeast, clipped}
use Rattle.theory.proofs.Laws.Divisions.{gap}
use Rattle.theory.proofs.Laws.Index.{low_clipped}
use Rattle.theory.proofs.Laws.OneTree.{index-drawn, rows-mem}
use Rattle.theory.specs.Laws.Positions.{apart-bits, bit-code, bits-apart, code_lt, cut, cut-far, cut_lt, cut-near, found, place, pos}
use Rattle.theory.proofs.Laws.Under.{measured_under}
use Rattle.theory.specs.LinkTables.{apart}
use Rattle.theory.specs.Readings.{Meets, measured, row, rows}
use Rattle.theory.specs.Tables.{WellFormed}

module _ (L : ℕ) (d : ℕ → ℕ → ℕ) (n i j : ℕ) (c : WellFormed L d n) (hi : i < n) (hj : j < n) where
  -- P2: under the four-point condition every place is a row's
  module _ (t : ℕ) (ht : t < 2 * d i j) where
    cut_i : cut L d i j (pos L d i j i + t) i ≡ 0
    cut_i = rw (le-ltb (pos L d i j i + t) (pos L d i j i) (omega arith))

    cut_j : cut L d i j (pos L d i j i + t) j ≡ 1
    cut_j = rw (lt-ltb (pos L d i j i + t) (pos L d i j j) (omega (arith, c.self hi, c.self hj, c.same hi hj, c.small hi hj)))

    place_parts : bit (place L d n i j t) i ≡ bit (place L d n i j t) j → ⊥
    place_parts e = omega (arith, bit-code L d n i j (pos L d i j i + t) i hi, bit-code L d n i j (pos L d i j i + t) j hj, cut_i, cut_j)

    near_before : (a : ℕ) → On n (bit (place L d n i j t)) (bit (place L d n i j t) i) a → pos L d i j a ≤ pos L d i j i + t
    near_before a o =
        cut-near L d i j (pos L d i j i + t) a
        (omega (
          arith,
          bit-code L d n i j (pos L d i j i + t) i hi,
          bit-code L d n i j (pos L d i j i + t) a o.0,
          cut_i,
          cut_lt L d i j (pos L d i j i + t) a,
          cut_lt L d i j (pos L d i j i + t) 0,
        ))

    far-behind : (b : ℕ) → On n (bit (place L d n i j t)) (bit (place L d n i j t) j) b → pos L d i j i + t < pos L d i j b
    far-behind b o =
        cut-far L d i j (pos L d i j i + t) b
        (omega (
          arith,
          bit-code L d n i j (pos L d i j i + t) j hj,
          bit-code L d n i j (pos L d i j i + t) b o.0,
          cut_j,
          cut_lt L d i j (pos L d i j i + t) b,
          cut_lt L d i j (pos L d i j i + t) 0,
        ))

    place-far : FarSide n (place L d n i j t)
    place-far = record {
      some = some (place L d n i j t) place_parts;
      fits = code_lt L d n i j (pos L d i j i + t);
      near = omega (arith, bit-code L d n i j (pos L d i j i + t) 0 (omega arith), cut_lt L d i j (pos L d i j i + t) 0);
    }
      where
        some : (S : ℕ) → (bit S i ≡ bit S j → ⊥) → 0 < S
        some zero h = absurd (h (bit_none i ∙ sym (bit_none j)))
        some (suc S) h = omega arith

  found-gap : (S a b : ℕ) → 1 ≤ found L d n i j S → On n (bit S) (bit S i) a → On n (bit S) (bit S j) b → found L d n i j S + pos L d i j a ≤ pos L d i j b
  found-gap S a b h oa ob =
      omega (
        arith,
        count_within (λ t. eqb (place L d n i j t) S) (pos L d i j i) (pos L d i j a) (2 * d i j) (pos L d i j b) (λ t ht e.
            let s = sym (eqb-true (place L d n i j t) S e) in
            (near_before t ht a (subst (λ y. On n (bit y) (bit y i) a) s oa), far-behind t ht b (subst (λ y. On n (bit y) (bit y j) b) s ob))),
      )

  module _ (fp : FourPoint d n) where
    found_low : (S : ℕ) → 1 ≤ found L d n i j S → (bit S i ≡ bit S j → ⊥) → AtLeast d n (bit S) (found L d n i j S)
    found_low S h parted = record {
      low = λ {a} {a'} {b} {b'} ha ha' hb hb'.
          cases (eqb (bit S i) 0)
          (λ e.
          let i0 : 0 ≡ bit S i = sym (eqb-true (bit S i) 0 e) in
          let j1 : 1 ≡ bit S j = omega (arith, bit_lt S j) in
          over a a' b b' (ha.0, ha.1 ∙ i0) (ha'.0, ha'.1 ∙ i0) (hb.0, hb.1 ∙ j1) (hb'.0, hb'.1 ∙ j1))
          (λ e.
          let i1 : 1 ≡ bit S i = omega (arith, eqb-false, bit_lt S i) in
          let j0 : 0 ≡ bit S j = omega (arith, bit_lt S j) in
          omega (
            arith,
            over b b' a a' (hb.0, hb.1 ∙ i1) (hb'.0, hb'.1 ∙ i1) (ha.0, ha.1 ∙ j0) (ha'.0, ha'.1 ∙ j0),
            c.same hb.0 ha.0,
            c.same hb'.0 ha'.0,
          ));
    }
      where
        before : (a b : ℕ) → On n (bit S) (bit S i) a → On n (bit S) (bit S j) b → found L d n i j S + d i a + d j b ≤ d i b + d j a
        before a b oa ob = omega (arith, found-gap S a b h oa ob, c.small hj oa.0, c.small hj ob.0)

        -- the gap law, for two images on i's side and two on j's
        over : (a a' b b' : ℕ) → On n (bit S) (bit S i) a → On n (bit S) (bit S i) a' → On n (bit S) (bit S j) b
            → On n (bit S) (bit S j) b' → found L d n i j S + d a a' + d b b' ≤ d a b + d a' b'
        over a a' b b' oa oa' ob ob' = gap L d n c fp i j hi hj (found L d n i j S) a a' b b' h oa.0 oa'.0 ob.0 ob'.0
            (before a b oa ob) (before a b' oa ob') (before a' b oa' ob) (before a' b' oa' ob')

    found-cost : (S : ℕ) → 1 ≤ found L d n i j S → (bit S i ≡ bit S j → ⊥) → found L d n i j S ≤ clipped L d n (bit S)
    found-cost S h parted =
        cases (eqb (bit S i) 0)
        (λ e. low_clipped L d n (bit S) c (found L d n i j S) {a = i} {b = j} (hi, eqb-true (bit S i) 0 e) (hj, omega (arith, eqb-true, bit_lt S j))
        (found_low S h parted))
        (λ e. low_clipped L d n (bit S) c (found L d n i j S) {a = j} {b = i} (hj, omega (arith, eqb-false, bit_lt S i, bit_lt S j))
        (hi, omega (arith, eqb-false, bit_lt S i)) (found_low S h parted))

    -- each place between i and j is a row's
    place-row : (t : ℕ) → t < 2 * d i j → Memᴰ (place L d n i j t) (filter (λ S. apart S i j) (rows L d n))
    place-row t ht =
        let once : 1 ≤ found L d n i j (place L d n i j t) = count-row (λ t'. eqb (place L d n i j t') (place L d n i j t)) (2 * d i j) t 1
        (λ t' l u. eq-eqb (place L d n i j t') (place L d n i j t) (ap (place L d n i j) (omega arith))) (omega arith) in
        mem-filter (λ S. apart S i j) (place L d n i j t) (bits-apart (place L d n i j t) i j (place_parts t ht)) (rows L d n)
        (rows-mem L d n c (place L d n i j t) (place-far t ht)
        (index-drawn L d n (place L d n i j t) (le_trans once (found-cost (place L d n i j t) once (place_parts t ht)))))

    path-over : 2 * d i j ≤ sum (rows L d n) (λ S. when (apart S i j) (clipped L d n (bit S)))
    path-over =
        rw (← (sum-filter (λ S. apart S i j) (λ S. clipped L d n (bit S)) (rows L d n)))
        (le_trans (sum_count_all (place L d n i j) (2 * d i j) (filter (λ S. apart S i j) (rows L d n)) place-row)
        (sum_le (found L d n i j) (λ S. clipped L d n (bit S)) (filter (λ S. apart S i j) (rows L d n))
        (λ S m. cases (leb 1 (found L d n i j S))
        (λ e. found-cost S (leb-true 1 (found L d n i j S) e) (apart-bits S i j (filter-mem (λ S. apart S i j) (rows L d n) S m).0))
        (λ e. omega (arith, leb-false 1 (found L d n i j S) e)))))

-- P1 and P2. Under the four-point condition the measured reading's path costs are twice the entries.
pub measured_meets : (L : ℕ) (d : ℕ → ℕ → ℕ) (n : ℕ) → WellFormed L d n → FourPoint d n → Meets d n (measured L d n)
measured_meets L d n c fp = record {
  meets = λ {i} {j} hi hj.
      le_antisymm (measured_under L d n i j c hi hj)
      (rw (sum-map (row L d n) (λ r. when (apart r.0 i j) r.1) (rows L d n)) (path-over L d n i j c hi hj fp));
}
