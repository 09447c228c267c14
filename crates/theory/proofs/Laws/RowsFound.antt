-- Law P4: a row of a tree costs at most the index of its far side.
-- Assumes nothing.
use Rattle.std.specs.Prelude.{false, not, true, List, ◌≡◌, ℕ, ◌*◌, ◌+◌, ◌≤◌}
use Rattle.std.proofs.Common.{ap, sym, ◌∙◌, arith}
use borrow.Table.Steps.{cases}
use Rattle.ground.specs.Bits.{bit}
use Rattle.ground.specs.Filters.{Each}
use Rattle.ground.specs.Least.{On}
use Rattle.ground.specs.Sums.{when}
use Rattle.ground.specs.Laws.Sums.{sum-add, sum_spare}
use Rattle.theory.specs.FarSides.{holds}
use Rattle.theory.specs.Index.{AtLeast}
use Rattle.theory.specs.Laws.Nested.{bit-holds, bit_holds_not, nested_uncrossed}
use Rattle.theory.proofs.Laws.Paths.{row_splits}
use Rattle.theory.proofs.Laws.Paths.{corner, path_same, piece, split_of}
use Rattle.theory.specs.LinkTables.{LinkTable, Row, apart}
use Rattle.theory.specs.Readings.{Meets}

module _ (L n : ℕ) (T : List Row) (t : LinkTable L n T) (d : ℕ → ℕ → ℕ) (e : Meets d n T) where
  pub row_low : Each T (λ r. AtLeast d n (bit r.0) r.1)
  row_low r m = record {
    low = λ {a} {a'} {b} {b'} ha ha' hb hb'. choice a a' b b' ha ha' hb hb'
        (bit_holds_not r.0 a ha.1) (bit_holds_not r.0 a' ha'.1) (bit-holds r.0 b hb.1) (bit-holds r.0 b' hb'.1);
  }
    where
      choice : (a a' b b' : ℕ) → On n (bit r.0) 0 a → On n (bit r.0) 0 a' → On n (bit r.0) 1 b → On n (bit r.0) 1 b'
          → holds r.0 a ≡ false → holds r.0 a' ≡ false → holds r.0 b ≡ true → holds r.0 b' ≡ true
          → r.1 + d a a' + d b b' ≤ d a b + d a' b'
      choice a a' b b' ha ha' hb hb' na na' fb fb' =
          omega (
            arith,
            sum-add (λ q. when (apart q.0 a a') q.1) (λ q. when (apart q.0 b' b) q.1) T,
            sum-add (λ q. when (apart q.0 a b) q.1) (λ q. when (apart q.0 a' b') q.1) T,
            sum_spare (λ q. when (apart q.0 a a') q.1 + when (apart q.0 b' b) q.1)
                (λ q. when (apart q.0 a b) q.1 + when (apart q.0 a' b') q.1)
                (2 * r.1) r T m other here,
            e.meets ha.0 ha'.0,
            e.meets hb'.0 hb.0,
            e.meets hb.0 hb'.0,
            path_same T b b',
            e.meets ha.0 hb.0,
            e.meets ha'.0 hb'.0,
          )
        where
          here : when (apart r.0 a a') r.1 + when (apart r.0 b' b) r.1 + 2 * r.1 ≤ when (apart r.0 a b) r.1 + when
              (apart r.0 a' b') r.1
          here = rw (na, na', fb, fb') (omega arith)

          other : Each T (λ q. when (apart q.0 a a') q.1 + when (apart q.0 b' b) q.1 ≤ when (apart q.0 a b) q.1 + when
              (apart q.0 a' b') q.1)
          other q s =
              piece (holds q.0 a) (holds q.0 a') (holds q.0 b') (holds q.0 b) q.1
              (cases (row_splits a a' b' b q)
              (λ f.
              let g = split_of (holds q.0 a) (holds q.0 a') (holds q.0 b') (holds q.0 b) f in
              absurd (corner n r.0 q.0 (nested_uncrossed n r.0 q.0 (t.nested r m q s)) a b' b a' ha.0 hb'.0 hb.0 ha'.0
              (record { b_not = fb' ∙ ap not (sym na); c_not = fb ∙ ap not (sym na); e_is = na' ∙ sym na })
              (record { b_not = g.c_not; c_not = g.b_not; e_is = g.e_is })))
              (λ f. f))
