-- Which divisions are links of an exact tree, and the doubled cost of a link, both read from the index. Assumes nothing.
use Rattle.std.specs.Prelude.{false, true, ◌⊎◌, ◌≡◌, ℕ, ◌+◌, ◌-◌, ◌<◌, ◌^◌, ◌≤◌, ltb}
use Rattle.std.proofs.Common.{true≢false, inl, inr, ap, subst, sym, ◌∙◌, arith, pow_pos, ltb-false, ltb-true}
use mathlib.Core.List.{List, Memᴰ}
use borrow.Table.Steps.{cases}
use Rattle.ground.specs.Bits.{bit}
use Rattle.ground.specs.Laws.Bits.{bit_full}
use Rattle.ground.specs.Laws.Maps.{map-mem}
use Rattle.ground.specs.Least.{On}
use Rattle.theory.specs.FarSides.{FarSide, holds, inner}
use Rattle.theory.specs.Index.{AtLeast, clipped}
use Rattle.theory.specs.Laws.FarSides.{far_image}
use Rattle.theory.proofs.Laws.Index.{clipped_low, low_clipped}
use Rattle.theory.specs.Laws.Nested.{holds_false, holds_true}
use Rattle.theory.proofs.Laws.OneTree.{drawn_cases, drawn_low, fars-drawn, fars-measured, index-drawn, rows-mem}
use Rattle.theory.proofs.Laws.OnlyOne.{unique}
use Rattle.theory.proofs.Laws.Paths.{row-far}
use Rattle.theory.proofs.Laws.Stable.{measured-cost}
use Rattle.theory.specs.LinkTables.{Row, cost_of, far, fars}
use Rattle.theory.specs.Readings.{Exact}
use Rattle.theory.specs.Tables.{WellFormed}
use Rattle.levels.specs.Laws.Rest.{at_least_rest, in_rest, link_far, not_in_rest}
use Rattle.levels.specs.Laws.Sets.{from-bit}
use Rattle.levels.specs.Sides.{link_of, rest}

-- ## Which divisions are links of the exact tree: the inner ones with index above 0

module _ (L : ℕ) (d : ℕ → ℕ → ℕ) (n : ℕ) (T : List Row) (c : WellFormed L d n) (x : Exact L d n T) where
  pub index_link : (R : ℕ) → FarSide n R → AtLeast d n (bit R) 1 → Memᴰ R (fars T)
  index_link R f p =
      let b = far_image n R f in
      let more = low_clipped L d n (bit R) c 1 {a = 0} {b = b.0} (omega (arith, b.1), f.near) (b.1, b.2) p in
      subst (λ (U : List Row). Memᴰ R (fars U)) (sym (unique L d n c T x.tree x.meets))
      (rw (fars-measured L d n) (rows-mem L d n c R f (index-drawn L d n R (omega (arith, more)))))

  pub link_index : (R : ℕ) → Memᴰ R (fars T) → inner n R ≡ true → AtLeast d n (bit R) 1
  link_index R m e =
      go (drawn_cases L d n R (fars-drawn L d n c R (subst (λ (U : List Row). Memᴰ R (fars U)) (unique L d n c T x.tree x.meets) m)))
    where
      go : (inner n R ≡ false) ⊎ (0 < clipped L d n (bit R)) → AtLeast d n (bit R) 1
      go (inl o) = absurd (true≢false (sym e ∙ o))
      go (inr h) = drawn_low L d n c R h

  -- the far sides of the links
  pub far_of : (R : ℕ) → Memᴰ R (fars T) → FarSide n R
  far_of R m = let r = map-mem far T R m in rw r.1 (row-far L n T x.tree r.0 r.2)

-- ## The index where it is known from below and one choice attains it

pub index_is : (L : ℕ) (d : ℕ → ℕ → ℕ) (n : ℕ) (s : ℕ → ℕ) (v : ℕ) → WellFormed L d n → AtLeast d n s v
    → (a a' b b' : ℕ) → On n s 0 a → On n s 0 a' → On n s 1 b → On n s 1 b' → d a b + d a' b' ≤ v + d a a' + d b b' → clipped L d n s ≡ v
index_is L d n s v c p a a' b b' ha ha' hb hb' q =
    cases (ltb 0 (clipped L d n s))
    (λ e. omega (arith, low_clipped L d n s c v ha hb p, (clipped_low L d n s c (ltb-true 0 (clipped L d n s) e)).low ha ha' hb hb'))
    (λ e. omega (arith, low_clipped L d n s c v ha hb p, ltb-false 0 (clipped L d n s) e))

module _ (L : ℕ) (d : ℕ → ℕ → ℕ) (n : ℕ) (c : WellFormed L d n) (T : List Row) (x : Exact L d n T) where
  tree_cost : (R : ℕ) → FarSide n R → cost_of T R ≡ clipped L d n (bit R)
  tree_cost R f = ap (λ (U : List Row). cost_of U R) (unique L d n c T x.tree x.meets) ∙ measured-cost L d n R f

  -- so it is the cost of the link, whichever of its sides is named
  pub link_cost : (S v : ℕ) → S < 2 ^ n → AtLeast d n (bit S) v → (i j k l : ℕ) → i < n → j < n → k < n → l < n
      → holds S i ≡ true → holds S j ≡ true → holds S k ≡ false → holds S l ≡ false → d i k + d j l ≤ v + d i j + d k l → cost_of T (link_of n S) ≡ v
  link_cost S v f p i j k l hi hj hk hl si sj sk sl q =
      tree_cost (link_of n S) (link_far n S f (omega (arith, hi)) (omega (arith, from-bit i S (holds_true S i si), pow_pos i)) full)
      ∙ cases (holds S 0)
      (λ e. rw e (index_is L d n (bit (rest n S)) v c (at_least_rest n S f L d v c p) i j k l
      (hi, holds_false (rest n S) i (not_in_rest n S f i hi si)) (hj, holds_false (rest n S) j (not_in_rest n S f j hj sj))
      (hk, holds_true (rest n S) k (in_rest n S f k hk sk)) (hl, holds_true (rest n S) l (in_rest n S f l hl sl)) q))
      (λ e. rw e (index_is L d n (bit S) v c p k l i j
      (hk, holds_false S k sk) (hl, holds_false S l sl) (hi, holds_true S i si) (hj, holds_true S j sj)
      (omega (arith, q, c.same hi hk, c.same hj hl))))
    where
      full : S ≡ 2 ^ n - 1 → ⊥
      full e = omega (arith, holds_false S k sk, ap (λ (z : ℕ). bit z k) e, bit_full n k hk)
