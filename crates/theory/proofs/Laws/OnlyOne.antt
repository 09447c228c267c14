-- Law P5: only one link table has path costs that are twice the entries, the measured reading. Demand 2.
-- Assumes nothing.
use Rattle.std.specs.Prelude.{false, true, ◌↔◌, ◌⊎◌, refl, ◌≡◌, suc, ℕ, ◌<◌, ◌^◌, ◌≤◌}
use mathlib.Core.List.Memᴰ
use mathlib.Core.List.{List, Memᴰ, [], map, ◌∷◌}
use Rattle.std.proofs.Common.{inl, inr, ap, ap₂, subst, sym, ◌∙◌, le_trans, arith}
use borrow.Table.Steps.{cases}
use Rattle.ground.specs.Laws.Ascending.{between_ext}
use Rattle.ground.specs.Bits.{bit}
use Rattle.ground.specs.Filters.{Each}
use Rattle.ground.specs.Laws.Maps.{map-mem}
use Rattle.ground.specs.Sums.{sum, when}
use Rattle.theory.specs.FarSides.{FarSide, inner}
use Rattle.theory.specs.FourPoint.{FourPoint}
use Rattle.theory.specs.Index.{clipped}
use Rattle.theory.specs.Laws.Among.{Among, among, among_all, among_each}
use Rattle.theory.specs.Laws.FarSides.{far_image}
use Rattle.theory.proofs.Laws.Index.{low_clipped}
use Rattle.theory.specs.Laws.Nested.{bit-holds, bit_holds_not}
use Rattle.theory.proofs.Laws.OneTree.{drawn_cases, index-drawn, measured_tree, own-drawn, rows_between, rows-far, rows-mem}
use Rattle.theory.proofs.Laws.Over.{measured_meets}
use Rattle.theory.proofs.Laws.OwnLinks.{not_inner_own}
use Rattle.theory.proofs.Laws.Paths.{meets_four_point, row-far}
use Rattle.theory.proofs.Laws.RowsFound.{row_low}
use Rattle.theory.proofs.Laws.Under.{path_under}
use Rattle.theory.specs.LinkTables.{LinkTable, Row, apart, far, fars}
use Rattle.theory.specs.Readings.{Exact, Meets, drawn, measured, row, rows}
use Rattle.theory.specs.Tables.{WellFormed}

-- P5.
module _ (L : ℕ) (d : ℕ → ℕ → ℕ) (n : ℕ) (c : WellFormed L d n) (T : List Row) (t : LinkTable L n T) (e : Meets d n T) where
  abbrev idx : ℕ → ℕ
  idx S = clipped L d n (bit S)

  -- a row's cost is at most its index
  cost_le : Each T (λ r. r.1 ≤ idx r.0)
  cost_le r m =
      let f = row-far L n T t r m in
      let b = far_image n r.0 f in
      low_clipped L d n (bit r.0) c r.1 {a = 0} {b = b.0} (omega arith, f.near) (b.1, b.2) (row_low L n T t d e r m)

  row-drawn : Each T (λ r. Memᴰ r.0 (rows L d n))
  row-drawn r m =
      rows-mem L d n c r.0 (row-far L n T t r m)
      (cases (inner n r.0) (λ i. index-drawn L d n r.0 (le_trans (t.drawn r m i) (cost_le r m))) (λ i. own-drawn L d n r.0 i))

  inside : Among T (rows L d n)
  inside = among 1 (2 ^ n) (rows L d n) T (rows_between L d n c) t.ascending row-drawn

  -- the costs that part i and j are their indexes, and no other row parts them
  module _ (i j : ℕ) (hi : i < n) (hj : j < n) where
    abbrev part : Row → ℕ
    part r = when (apart r.0 i j) r.1

    abbrev whole : ℕ → ℕ
    whole S = when (apart S i j) (idx S)

    part_le : Each T (λ r. part r ≤ whole r.0)
    part_le r m = cases (apart r.0 i j) (λ s. rw s (cost_le r m)) (λ s. rw s (omega arith))

    sums : sum (rows L d n) whole ≤ sum T part
    sums = rw (e.meets hi hj) (path_under L d n i j c hi hj (rows L d n) 1 (2 ^ n) (rows_between L d n c) (λ S m. (rows-far L d n c S m).1))

    part_is : Each T (λ r. part r ≡ whole r.0)
    part_is = among_each part whole inside part_le sums

    part-all : (S : ℕ) → Memᴰ S (rows L d n) → 0 < whole S → Memᴰ S (fars T)
    part-all = among_all part whole inside part_le sums

  parted : (S : ℕ) → FarSide n S → (b : ℕ) × (b < n) × (apart S 0 b ≡ true)
  parted S f = let b = far_image n S f in (b.0, b.1, rw (bit_holds_not S 0 f.near, bit-holds S b.0 b.2))

  pub cost_is : Each T (λ r. r.1 ≡ idx r.0)
  cost_is r m =
      let b = parted r.0 (row-far L n T t r m) in
      let p = part_is 0 b.0 (omega arith) b.1 r m in
      rw b.2 at p

  row-mem : (S : ℕ) → Memᴰ S (rows L d n) → Memᴰ S (fars T)
  row-mem S m =
      let f = rows-far L d n c S m in go f (drawn_cases L d n S f.0)
    where
      go : (drawn L d n S ≡ true) × FarSide n S → (inner n S ≡ false) ⊎ (0 < idx S) → Memᴰ S (fars T)
      go f (inl i) = let o = not_inner_own n S f.1 i in Memᴰ.cast o.2 (t.owns o.0 o.1)
      go f (inr p) = let b = parted S f.1 in part-all 0 b.0 (omega arith) b.1 S m (rw b.2 p)

  fars_is : fars T ≡ rows L d n
  fars_is = between_ext 1 (2 ^ n) (fars T) (rows L d n) t.ascending (rows_between L d n c)
      (λ S m. let r = map-mem far T S m in Memᴰ.cast r.1 (row-drawn r.0 r.2)) row-mem

  pub unique : T ≡ measured L d n
  unique = again T cost_is ∙ ap (map (row L d n)) fars_is
    where
      again : (T : List Row) → Each T (λ r. r.1 ≡ idx r.0) → T ≡ map (row L d n) (fars T)
      again [] h = refl
      again (r ∷ T) h = ap₂ ◌∷◌ (λ i. (r.0, h r (Memᴰ.head refl) i)) (again T (λ q m. h q (Memᴰ.tail m)))

-- ## Demand 2: the exact reading

module _ (L : ℕ) (d : ℕ → ℕ → ℕ) (k : ℕ) (c : WellFormed L d (suc (suc k))) where
  -- accepted exactly when the four-point condition holds, and exactly when some link table has the path costs
  pub exact_exists : FourPoint d (suc (suc k)) ↔ ((T : List Row) × Exact L d (suc (suc k)) T)
  exact_exists = (
    λ fp. (measured L d (suc (suc k)), record { tree = measured_tree L d k c; meets = measured_meets L d (suc (suc k)) c fp }),
    λ r. meets_four_point L (suc (suc k)) r.0 r.1.tree d r.1.meets,
  )

  -- the answer is that table; only one exists; on an accepted table both readings agree
  pub exact_is : (T : List Row) → FourPoint d (suc (suc k)) → Exact L d (suc (suc k)) T ↔ (T ≡ measured L d (suc (suc k)))
  exact_is T fp = (
    λ x. unique L d (suc (suc k)) c T x.tree x.meets,
    λ x. subst (Exact L d (suc (suc k))) (sym x) (record { tree = measured_tree L d k c; meets = measured_meets L d (suc (suc k)) c fp }),
  )
