-- The mended rows are the exact reading of the smaller cost table. Assumes nothing.
use Rattle.std.specs.Prelude.{false, not, true, refl, ◌≡◌, suc, ℕ, ◌*◌, ◌<◌, ◌^◌, ◌≤◌, eqb}
use Rattle.std.proofs.Common.{true≢false, ap, sym, ◌∙◌, arith, eqb-true}
use mathlib.Core.List.Memᴰ
use mathlib.Core.List.{List, Memᴰ}
use Rattle.std.specs.Int.Count.{ones}
use Rattle.std.proofs.lemmas.Bool.{eqb-false, lt-leb}
use borrow.Table.Steps.{cases}
use Rattle.ground.specs.Filters.{Each}
use Rattle.ground.specs.Laws.Ascending.{between_mem}
use Rattle.ground.specs.Laws.Maps.{map-mem, mem-map}
use Rattle.ground.specs.Laws.Ones.{ones_none}
use Rattle.ground.specs.Laws.Sums.{sum_spare, sum_zero}
use Rattle.ground.specs.Laws.Tests.{not_one_of, one_of_not}
use Rattle.ground.specs.Sums.{when}
use Rattle.theory.specs.FarSides.{FarSide, holds, inner, own}
use Rattle.theory.specs.Laws.FarSides.{far_image}
use Rattle.mending.proofs.Laws.MendedRows.{mend_between, mend-costs, mend-has, mend-path, mend-sides}
use Rattle.theory.specs.Laws.Nested.{Uncrossed, bit-holds, bit_holds_not, nested_uncrossed, uncrossed_nested}
use Rattle.mending.specs.Laws.OldNumbers.{had-all, had_lt, had_once}
use Rattle.theory.proofs.Laws.OnlyOne.{unique}
use Rattle.theory.proofs.Laws.OwnLinks.{not_inner_own, own-far, own_not_inner}
use Rattle.theory.proofs.Laws.Paths.{corner, row-far}
use Rattle.mending.proofs.Laws.Renamed.{own_gone, own-left, renamed-near, renamed_parts}
use Rattle.mending.specs.Leaving.{had, leave, mend, renamed}
use Rattle.theory.specs.LinkTables.{LinkTable, Row, apart, far, fars}
use Rattle.theory.specs.Readings.{Exact, Meets, measured}
use Rattle.theory.specs.Tables.{WellFormed}

-- the smaller cost table is well-formed
pub leave_formed : (L : ℕ) (d : ℕ → ℕ → ℕ) (m x : ℕ) → WellFormed L d (suc m) → WellFormed L (leave x d) m
leave_formed L d m x c = record {
  small = λ {i} {j} hi hj. c.small (had_lt m x i hi) (had_lt m x j hj);
  self = λ {i} hi. c.self (had_lt m x i hi);
  same = λ {i} {j} hi hj. c.same (had_lt m x i hi) (had_lt m x j hj);
  nonzero = λ {i} {j} hi hj h. c.nonzero (had_lt m x i hi) (had_lt m x j hj) (λ e. h (had_once x i j e));
}

inner_none : (m : ℕ) → inner m 0 ≡ false
inner_none m = rw (lt-leb 2 (ones 0) (omega (arith, ones_none)))

module _ (L k x : ℕ) (hx : x < suc (suc (suc k))) (T : List Row) (t : LinkTable L (suc (suc (suc k))) T) where
  abbrev m : ℕ
  m = suc (suc k)

  abbrev U : List Row
  U = mend (suc (suc k)) x T

  fits : Each T (λ r. r.0 < 2 ^ suc m)
  fits r s = (row-far L (suc m) T t r s).fits

  -- a row of the mended table is an old one, renamed
  pub record From (S : ℕ) : Type 0 where
    pub row : Row
    pub there : Memᴰ row T
    pub is : S ≡ renamed m x row.0

  from : Each U (λ q. From q.0)
  from = mend-sides m x From T (λ r s. record { row = r; there = s; is = refl })

  side : Each U (λ q. FarSide m q.0)
  side q s =
      let b = between_mem 1 (2 ^ m) (fars U) (mend_between m x hx T fits) q.0 (mem-map far s) in
      let f = from q s in
      record { some = b.0; fits = b.1; near = rw f.is (renamed-near m x hx f.row.0 (omega arith) (fits f.row f.there)) }

  -- an inner division comes from an inner one
  inner-from : Each T (λ r. inner m (renamed m x r.0) ≡ true → inner (suc m) r.0 ≡ true)
  inner-from r s e =
      cases (inner (suc m) r.0) (λ i. i)
      (λ i. let o = not_inner_own (suc m) r.0 (row-far L (suc m) T t r s) i in absurd (go o.0 o.1 (ap (λ (z : ℕ). renamed m x z) o.2)))
    where
      go : (i : ℕ) → i < suc m → renamed m x r.0 ≡ renamed m x (own (suc m) i) → ⊥
      go i h q =
          cases (eqb x i)
          (λ z. true≢false (sym e ∙ ap (inner m) (q ∙ ap (λ (y : ℕ). renamed m x (own (suc m) y)) (sym (eqb-true x i z)) ∙ own_gone k x hx) ∙ inner_none m))
          (λ z.
          let j = had-all m x i hx h (eqb-false x i z) in
          let o = q ∙ ap (λ (y : ℕ). renamed m x (own (suc m) y)) j.2 ∙ own-left k x hx j.0 j.1 in
          true≢false (sym e ∙ ap (inner m) o ∙ own_not_inner k j.0 j.1))

  -- two that do not cross do not cross afterwards
  uncrossed : (S R : ℕ) → S < 2 ^ suc m → R < 2 ^ suc m → Uncrossed (suc m) S R → Uncrossed m (renamed m x S) (renamed m x R)
  uncrossed S R s r u = record {
    clear = λ {x = a} {y = b} {z = c} ha hb hc sa ra sb rb sc rc.
        corner (suc m) S R u (had x 0) (had x a) (had x b) (had x c) (had_lt m x 0 (omega arith)) (had_lt m x a ha) (had_lt m x b hb) (had_lt m x c hc)
        (record { b_not = far_from_lem S s a ha sa; c_not = far_from_lem S s b hb sb; e_is = near_to S s c hc sc })
        (record { b_not = far_from_lem R r a ha ra; c_not = far_from_lem R r c hc rc; e_is = near_to R r b hb rb });
  }
    where
      parts : (S : ℕ) (s : S < 2 ^ suc m) (i : ℕ) → i < m → holds (renamed m x S) i ≡ apart S (had x 0) (had x i)
      parts S s i h =
          let p = renamed_parts m x hx S 0 i s (omega arith) h in
          rw (bit_holds_not (renamed m x S) 0 (renamed-near m x hx S (omega arith) s)) at p

      far_from_lem : (S : ℕ) (s : S < 2 ^ suc m) (i : ℕ) → i < m → holds (renamed m x S) i ≡ true → holds S (had x i) ≡ not (holds S (had x 0))
      far_from_lem S s i h e = one_of_not (holds S (had x 0)) (holds S (had x i)) (sym (parts S s i h) ∙ e)

      near_to : (S : ℕ) (s : S < 2 ^ suc m) (i : ℕ) → i < m → holds (renamed m x S) i ≡ false → holds S (had x i) ≡ holds S (had x 0)
      near_to S s i h e = not_one_of (holds S (had x 0)) (holds S (had x i)) (ap not (sym (parts S s i h) ∙ e))

  own_there : (i : ℕ) → i < m → Memᴰ (own m i) (fars U)
  own_there i h =
      let r = map-mem far T (own (suc m) (had x i)) (t.owns (had x i) (had_lt m x i h)) in
      let e : renamed m x r.0.0 ≡ own m i = ap (λ (z : ℕ). renamed m x z) (sym r.1) ∙ own-left k x hx i h in
      Memᴰ.cast (sym e) (mend-has m x T r.0 r.2 (omega (arith, e, (own-far k i h).some)))

  module _ (d : ℕ → ℕ → ℕ) (c : WellFormed L d (suc m)) (e : Meets d (suc m) T) where
    mended_meets : Meets (leave x d) m U
    mended_meets = record { meets = λ {i} {j} hi hj. mend-path m x hx T fits i j hi hj ∙ e.meets (had_lt m x i hi) (had_lt m x j hj) }

    -- no cost is above the path cost of two images that the row parts
    small : Each U (λ q. q.1 ≤ 2 * L)
    small q s =
        let f = side q s in
        let b = far_image m q.0 f in
        let p : apart q.0 0 b.0 ≡ true = rw (bit_holds_not q.0 0 f.near, bit-holds q.0 b.0 b.2) in
        omega (
          arith,
          sum_zero U,
          sum_spare (λ r. 0) (λ r. when (apart r.0 0 b.0) r.1) q.1 q U s (λ r y. omega arith) (rw p (omega arith)),
          mended_meets.meets {i = 0} {j = b.0} (omega arith) b.1,
          c.small (had_lt m x 0 (omega arith)) (had_lt m x b.0 b.1),
        )

    pub mended_exact : Exact L (leave x d) m U
    mended_exact = record { tree = tree; meets = mended_meets }
      where
        tree : LinkTable L m U
        tree = record {
          ascending = mend_between m x hx T fits;
          near = λ q s. (side q s).near;
          owns = own_there;
          nested = λ q s p y.
              let f = from q s in let g = from p y in
              rw (f.is, g.is) (uncrossed_nested m (renamed m x f.row.0) (renamed m x g.row.0)
              (uncrossed f.row.0 g.row.0 (fits f.row f.there) (fits g.row g.there)
              (nested_uncrossed (suc m) f.row.0 g.row.0 (t.nested f.row f.there g.row g.there))));
          drawn = mend-costs m x (inner m) T (λ r s i. t.drawn r s (inner-from r s i));
          small = small;
        }

    -- only one exists, so it is the reading of the smaller table
    pub mended_reading : U ≡ measured L (leave x d) m
    mended_reading = unique L (leave x d) m (leave_formed L d m x c) U mended_exact.tree mended_exact.meets
