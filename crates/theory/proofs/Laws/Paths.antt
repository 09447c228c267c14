-- Path costs, and that those of every link table meet the four-point condition (P3).
-- Assumes nothing.
use Rattle.std.specs.Prelude.{Bool, false, not, true, ◌&&◌, ◌⊎◌, refl, ◌≡◌, max, ℕ, ◌+◌, ◌<◌, ◌^◌, ◌≤◌}
use Rattle.std.proofs.Common.{true≢false, inl, inr, ap, ◌∙◌, arith}
use mathlib.Core.List.{List, Memᴰ, [], ◌∷◌}
use borrow.Table.Steps.{cases}
use Rattle.ground.specs.Laws.Ascending.{between_mem}
use Rattle.ground.specs.Filters.{Each}
use Rattle.ground.specs.Laws.Filters.{any}
use Rattle.ground.specs.Laws.Maps.{mem-map}
use Rattle.ground.specs.Sums.{when}
use Rattle.ground.specs.Laws.Sums.{sum-add, sum_le, sum_same}
use Rattle.ground.specs.Tests.{one_of}
use Rattle.ground.specs.Laws.Tests.{and_l, and_r, not_one_of, one_of_not, one_of_self, one_of_sym}
use Rattle.theory.specs.FarSides.{FarSide, holds}
use Rattle.theory.specs.FourPoint.{FourPoint}
use Rattle.theory.proofs.Laws.FourPoint.{NoneAbove, four_point_lem}
use Rattle.theory.specs.Laws.Nested.{Uncrossed, nested_uncrossed}
use Rattle.theory.specs.LinkTables.{LinkTable, Row, apart, far, fars, path}
use Rattle.theory.specs.Readings.{Meets}

pub path_same : (T : List Row) (i j : ℕ) → path T i j ≡ path T j i
path_same T i j = sum_same _ _ T (λ r m. ap (λ b. when b r.1) (one_of_sym (holds r.0 i) (holds r.0 j)))

pub path_self : (T : List Row) (i : ℕ) → path T i i ≡ 0
path_self [] i = refl
path_self (r ∷ T) i = rw (one_of_self (holds r.0 i)) (omega (arith, path_self T i))

-- ## What one row adds to the three sums of four images

-- a with e, b with c, apart
abbrev pub splits : Bool → Bool → Bool → Bool → Bool
splits a b c e = one_of a b && (not (one_of a e) && not (one_of b c))

-- a row that does not split i l | j k adds to the one sum no more than to the other
pub piece : (a b c e : Bool) (x : ℕ) → splits a b c e ≡ false → when (one_of a b) x + when (one_of c e) x ≤ when (one_of a e) x + when (one_of b c) x
piece true true true true x h = omega arith
piece true true true false x h = omega arith
piece true true false true x h = omega arith
piece true true false false x h = omega arith
piece true false true true x h = omega arith
piece true false true false x h = omega arith
piece true false false true x h = absurd (true≢false h)
piece true false false false x h = omega arith
piece false true true true x h = omega arith
piece false true true false x h = absurd (true≢false h)
piece false true false true x h = omega arith
piece false true false false x h = omega arith
piece false false true true x h = omega arith
piece false false true false x h = omega arith
piece false false false true x h = omega arith
piece false false false false x h = omega arith

-- a and e on one side, b and c on the other
pub record Split (a b c e : Bool) : Type 0 where
  pub b_not : b ≡ not a
  pub c_not : c ≡ not a
  pub e_is : e ≡ a

pub split_of : (a b c e : Bool) → splits a b c e ≡ true → Split a b c e
split_of a b c e h =
    let r = and_r (one_of a b) (not (one_of a e) && not (one_of b c)) h in
    let p = one_of_not a b (and_l (one_of a b) (not (one_of a e) && not (one_of b c)) h) in
    record {
      b_not = p;
      c_not = not_one_of b c (and_r (not (one_of a e)) (not (one_of b c)) r) ∙ p;
      e_is = not_one_of a e (and_l (not (one_of a e)) (not (one_of b c)) r);
    }

-- two rows that split four images in two different ways cross
pub corner : (n S R : ℕ) → Uncrossed n S R → (i j k l : ℕ) → i < n → j < n → k < n → l < n
    → Split (holds S i) (holds S j) (holds S k) (holds S l) → Split (holds R i) (holds R j) (holds R l) (holds R k) → ⊥
corner n S R u i j k l hi hj hk hl p q =
    cases (holds S i)
    (λ s. cases (holds R i)
    (λ r. u.clear hi hl hk s r (p.e_is ∙ s) (q.c_not ∙ ap not r) (p.c_not ∙ ap not s) (q.e_is ∙ r))
    (λ r. u.clear hl hi hj (p.e_is ∙ s) (q.c_not ∙ ap not r) s r (p.b_not ∙ ap not s) (q.b_not ∙ ap not r)))
    (λ s. cases (holds R i)
    (λ r. u.clear hk hj hi (p.c_not ∙ ap not s) (q.e_is ∙ r) (p.b_not ∙ ap not s) (q.b_not ∙ ap not r) s r)
    (λ r. u.clear hj hk hl (p.b_not ∙ ap not s) (q.b_not ∙ ap not r) (p.c_not ∙ ap not s) (q.e_is ∙ r) (p.e_is ∙ s) (q.c_not ∙ ap not r)))

abbrev pub row_splits : ℕ → ℕ → ℕ → ℕ → Row → Bool
row_splits i j k l r = splits (holds r.0 i) (holds r.0 j) (holds r.0 k) (holds r.0 l)

-- no row splits i l | j k
pub sums_le : (T : List Row) (i j k l : ℕ) → Each T (λ r. row_splits i j k l r ≡ false) → path T i j + path T k l ≤ path T i l + path T j k
sums_le T i j k l h =
    omega (
      arith,
      sum-add (λ r. when (apart r.0 i j) r.1) (λ r. when (apart r.0 k l) r.1) T,
      sum-add (λ r. when (apart r.0 i l) r.1) (λ r. when (apart r.0 j k) r.1) T,
      sum_le (λ r. when (apart r.0 i j) r.1 + when (apart r.0 k l) r.1) (λ r. when (apart r.0 i l) r.1 + when (apart r.0 j k) r.1) T
          (λ r m. piece (holds r.0 i) (holds r.0 j) (holds r.0 k) (holds r.0 l) r.1 (h r m)),
    )

-- P3.
module _ (L n : ℕ) (T : List Row) (t : LinkTable L n T) where
  pub path_none_above : NoneAbove (path T) n
  path_none_above = record {
    low = λ {i} {j} {k} {l} hi hj hk hl. go i j k l hi hj hk hl (any (row_splits i j k l) T);
  }
    where
      go : (i j k l : ℕ) → i < n → j < n → k < n → l < n
          → ((r : Row) × Memᴰ r T × (row_splits i j k l r ≡ true)) ⊎ Each T (λ r. row_splits i j k l r ≡ false)
          → path T i j + path T k l ≤ max (path T i k + path T j l) (path T i l + path T j k)
      go i j k l hi hj hk hl (inr h) = omega (arith, sums_le T i j k l h)
      go i j k l hi hj hk hl (inl r) =
          omega (
            arith,
            path_same T l k,
            sums_le T i j l k (λ q m.
                cases (row_splits i j l k q)
                (λ e. absurd (corner n r.0.0 q.0 (nested_uncrossed n r.0.0 q.0 (t.nested r.0 r.1 q m)) i j k l hi hj hk hl
                (split_of (holds r.0.0 i) (holds r.0.0 j) (holds r.0.0 k) (holds r.0.0 l) r.2)
                (split_of (holds q.0 i) (holds q.0 j) (holds q.0 l) (holds q.0 k) e)))
                (λ e. e)),
          )

  pub path_four_point : FourPoint (path T) n
  path_four_point = four_point_lem (path T) n (λ i j hi hj. path_same T i j) path_none_above

  -- so a table that some link table meets has the condition
  pub meets_four_point : (d : ℕ → ℕ → ℕ) → Meets d n T → FourPoint d n
  meets_four_point d m =
      four_point_lem d n (λ i j hi hj. omega (arith, m.meets hi hj, m.meets hj hi, path_same T i j))
      (record {
        low = λ {i} {j} {k} {l} hi hj hk hl. omega
            (arith, path_none_above.low hi hj hk hl, m.meets hi hj, m.meets hk hl, m.meets hi hk, m.meets hj hl, m.meets hi hl, m.meets hj hk);
      })

  pub row-far : Each T (λ r. FarSide n r.0)
  row-far r m =
      let b = between_mem 1 (2 ^ n) (fars T) t.ascending r.0 (mem-map far m) in
      record { some = b.0; fits = b.1; near = t.near r m }
