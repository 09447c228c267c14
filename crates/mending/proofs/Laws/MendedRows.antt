-- The rows once an image has left: where they come from, that they ascend, and that path costs stay. Assumes nothing.
use Rattle.std.specs.Prelude.{Bool, false, true, ◌≡◌, suc, ℕ, ◌+◌, ◌<◌, ◌^◌}
use mathlib.Core.List.{List, Memᴰ, [], map}
use Rattle.std.proofs.Common.{inl, sym, ◌∙◌, arith, pow_pos, lt-ltb, ltb-false, ltb-true}
use Rattle.std.proofs.Math.Path.{ap, subst}
use Rattle.std.proofs.Math.Dec.{ltb}
use borrow.Table.Steps.{cases}
use Rattle.ground.specs.Ascending.{Between}
use Rattle.ground.specs.Filters.{Each}
use Rattle.ground.specs.Laws.Bits.{bit_none}
use Rattle.ground.specs.Laws.Filters.{each_nil, filter-mem, mem-filter}
use Rattle.ground.specs.Laws.Maps.{map-mem, mem-map}
use Rattle.ground.specs.Laws.Sums.{sum-filter, sum-map, sum_same}
use Rattle.ground.specs.Sums.{sum, when}
use Rattle.theory.specs.Laws.Nested.{bit_holds_not}
use Rattle.theory.specs.LinkTables.{Row, apart, far, fars, path}
use Rattle.rows.proofs.Laws.Put.{Costs}
use Rattle.rows.proofs.Laws.PutAll.{put_all_between, put_all-costs, put_all_keeps, put_all-sides, put_all-sum}
use Rattle.rows.specs.Rows.{cost_if}
use Rattle.mending.proofs.Laws.Renamed.{renamed_lt, renamed_parts}
use Rattle.mending.specs.Leaving.{grouped, had, joined, mend, rename_row, renamed}

-- ## Rows joined: those without a far side add nothing to what is asked of sides

joined-sum : (t : ℕ → Bool) → t 0 ≡ false → (R : List Row) → sum (joined R) (cost_if t) ≡ sum R (cost_if t)
unfolding joined
joined-sum t z R =
    let e : sum (grouped R) (cost_if t) + sum [] (cost_if t) ≡ sum (grouped R) (cost_if t) = omega arith in
    put_all-sum t (grouped R) [] ∙ e ∙ sum-filter (λ r. ltb 0 r.0) (cost_if t) R ∙ sum_same _ _ R (λ r m. each r)
  where
    each : (r : Row) → when (ltb 0 r.0) (cost_if t r) ≡ cost_if t r
    each r =
        cases (ltb 0 r.0) (λ e. rw e)
        (λ e. let q : r.0 ≡ 0 = omega (arith, ltb-false 0 r.0 e) in rw e (sym (ap (λ b. when b r.1) (ap t q ∙ z))))

module _ (m x : ℕ) where
  -- each is an old row, renamed
  renamed-from : (T : List Row) → Each (grouped (map (rename_row m x) T)) (λ q. (0 < q.0) × ((r : Row) × (q ≡ rename_row m x r) × Memᴰ r T))
  renamed-from T q s =
      let a = filter-mem (λ r. ltb 0 r.0) (map (rename_row m x) T) q s in
      (ltb-true 0 q.0 a.0, map-mem (rename_row m x) T q a.1)

  -- so what holds of the old sides, renamed, holds of the new ones
  pub mend-sides : (P : ℕ → Type 0) (T : List Row) → Each T (λ r. P (renamed m x r.0)) → Each (mend m x T) (λ q. P q.0)
  unfolding joined
  mend-sides P T h = put_all-sides P (grouped (map (rename_row m x) T)) [] (λ q s.
      let a = (renamed-from T q s).1 in
      subst P (sym (ap far a.1)) (h a.0 a.2)) (each_nil _)

  -- where each row with the test had a cost, each has one
  pub mend-costs : (t : ℕ → Bool) (T : List Row) → Each T (λ r. t (renamed m x r.0) ≡ true → 0 < r.1) → Each (mend m x T) (Costs t)
  unfolding joined
  mend-costs t T h = put_all-costs t (grouped (map (rename_row m x) T)) [] (λ q s.
      let a = (renamed-from T q s).1 in
      subst (Costs t) (sym a.1) (h a.0 a.2)) (each_nil (Costs t))

  -- and no side is lost but those with an empty group
  pub mend-has : (T : List Row) → Each T (λ r. 0 < renamed m x r.0 → Memᴰ (renamed m x r.0) (fars (mend m x T)))
  unfolding joined
  mend-has T r s p =
      let t = mem-filter (λ q. ltb 0 q.0) (rename_row m x r) (lt-ltb 0 (renamed m x r.0) p) (map (rename_row m x) T) (mem-map (rename_row m x) s) in
      put_all_keeps (renamed m x r.0) (grouped (map (rename_row m x) T)) [] (inl (mem-map far t))

  module _ (hx : x < suc m) where
    pub mend_between : (T : List Row) → Each T (λ r. r.0 < 2 ^ suc m) → Between 1 (fars (mend m x T)) (2 ^ m)
    unfolding joined
    mend_between T h = put_all_between 1 (2 ^ m) (grouped (map (rename_row m x) T)) [] (λ q s.
        let a = renamed-from T q s in
        (a.0, omega (arith, ap far a.1.1, renamed_lt m x hx a.1.0.0 (h a.1.0 a.1.2)))) (pow_pos m)

    -- path costs stay
    pub mend-path : (T : List Row) → Each T (λ r. r.0 < 2 ^ suc m) → (i j : ℕ) → i < m → j < m → path (mend m x T) i j ≡ path T (had x i) (had x j)
    mend-path T h i j hi hj =
        joined-sum (λ S. apart S i j) none (map (rename_row m x) T)
        ∙ sum-map (rename_row m x) (λ r. when (apart r.0 i j) r.1) T
        ∙ sum_same _ _ T (λ r t. ap (λ b. when b r.1) (renamed_parts m x hx r.0 i j (h r t) hi hj))
      where
        none : apart 0 i j ≡ false
        none = rw (bit_holds_not 0 i (bit_none i), bit_holds_not 0 j (bit_none j))
