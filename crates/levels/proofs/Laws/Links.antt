-- The exact tree of a table with levels: every group but that of all images is one side of a link, and every inner link has a group on
-- one of its sides. Assumes nothing.
use Rattle.std.specs.Prelude.{false, true, ◌↔◌, ◌⊎◌, ◌≡◌, suc, zero, ℕ, ◌+◌, ◌-◌, ◌<◌, ◌^◌, ◌≤◌, leb}
use mathlib.Core.List.{List, Memᴰ}
use Rattle.std.proofs.Common.{inl, inr, ap, arith, pow_pos, leb-false, leb-true}
use Rattle.std.specs.Int.Count.{ones}
use borrow.Table.Steps.{cases}
use Rattle.ground.specs.Bits.{bit}
use Rattle.ground.specs.Laws.Bits.{bit_full}
use Rattle.ground.specs.Laws.Tests.{and_l, and_r}
use Rattle.theory.specs.FarSides.{FarSide, holds, inner, own}
use Rattle.theory.specs.Index.{AtLeast}
use Rattle.theory.specs.Laws.Nested.{bit-holds, bit_holds_not, holds_false, holds_true}
use Rattle.theory.proofs.Laws.OwnLinks.{not_inner_own}
use Rattle.theory.specs.LinkTables.{Row, fars}
use Rattle.theory.specs.Readings.{Exact}
use Rattle.theory.specs.Tables.{WellFormed}
use Rattle.levels.specs.Groups.{Group, height}
use Rattle.levels.proofs.Laws.Clear.{Clear}
use Rattle.levels.proofs.Laws.Clear.{clear_choice, part_clear}
use Rattle.levels.proofs.Laws.Clear.{clear_group, part_fits, part_image}
use Rattle.levels.proofs.Laws.Balls.{height-from}
use Rattle.levels.specs.Laws.Heights.{le_height}
use Rattle.levels.specs.Laws.LinkIndex.{far_of, index_link, link_index}
use Rattle.levels.specs.Laws.Rest.{at_least_link, at_least_rest, in_rest, link_far, rest_fits, rest_in, rest_ones, rest-rest}
use Rattle.levels.specs.Laws.Sets.{from-bit, other}
use Rattle.levels.specs.Sides.{Part, link_of, rest}
use Rattle.leveling.proofs.Laws.ThreePoint.{low}
use Rattle.leveling.specs.ThreePoint.{ThreePoint}

group-part : (d : ℕ → ℕ → ℕ) (n R : ℕ) → Group d n R ⊎ Group d n (rest n R) → Part d n R ⊎ Part d n (rest n R)
group-part d n R (inl g) = inl (inl g)
group-part d n R (inr g) = inr (inl g)

module _ (L : ℕ) (d : ℕ → ℕ → ℕ) (n : ℕ) (c : WellFormed L d n) (t : ThreePoint d n) where
  -- a clear set is one side of a division with index above 0
  pub clear_low : (S : ℕ) → Clear d n S → AtLeast d n (bit S) 1
  clear_low S g = record {
    low = λ {a} {a'} {b} {b'} ha ha' hb hb'.
        omega (
          arith,
          clear_choice L d n c t S g b b' a a' hb.0 hb'.0 ha.0 ha'.0 (bit-holds S b hb.1) (bit-holds S b' hb'.1)
              (bit_holds_not S a ha.1) (bit_holds_not S a' ha'.1),
          c.same ha.0 hb.0,
          c.same ha'.0 hb'.0,
        );
  }

  -- of the two sides of a division with index above 0 the one that is not higher is clear: where an entry between them is not above its
  -- height, the choice of that entry's images and of one on either side at the height from them gains nothing
  pub lower_clear : (S : ℕ) → S < 2 ^ n → AtLeast d n (bit S) 1 → height d n S ≤ height d n (rest n S) → Clear d n S
  lower_clear S f p q = record {
    below = λ {i} {j} {k} hi hj hk si sj sk.
        let u = height-from L d n c t S i hi si in
        let v = height-from L d n c t (rest n S) k hk (in_rest n S f k hk sk) in
        let sv = rest_in n S f v.0 v.1 v.2 in
        let near : d i k ≤ height d n S → d u.0 k ≤ height d n S =
        λ e. omega (arith, e, low t u.1 hk hi, c.same u.1 hi, c.same hk hi, u.3) in
        let far : d i k ≤ height d n S → d v.0 u.0 ≤ height d n (rest n S) =
        λ e. omega (arith, near e, low t v.1 u.1 hk, c.same v.1 hk, v.3) in
        cases (leb (d i k) (height d n S))
        (λ e. absurd (omega (
          arith,
          leb-true (d i k) (height d n S) e,
          far (leb-true (d i k) (height d n S) e),
          p.low {a = k} {a' = v.0} {b = i} {b' = u.0} (hk, holds_false S k sk) (v.1, holds_false S v.0 sv) (hi, holds_true S i si)
              (u.1, holds_true S u.0 u.2),
          c.same hk hi,
          u.3,
          v.3,
        )))
        (λ e. omega (arith, leb-false (d i k) (height d n S) e, le_height d n S i j hi hj si sj));
  }

  -- so one of the two sides is clear, and of an inner division it is a group
  one_clear : (R : ℕ) → FarSide n R → AtLeast d n (bit R) 1 → Clear d n R ⊎ Clear d n (rest n R)
  one_clear R f p =
      let e = rest-rest n R f.fits in
      cases (leb (height d n R) (height d n (rest n R)))
      (λ q. inl (lower_clear R f.fits p (leb-true (height d n R) (height d n (rest n R)) q)))
      (λ q. inr (lower_clear (rest n R) (rest_fits n R) (at_least_rest n R f.fits L d 1 c p)
      (rw e (omega (arith, leb-false (height d n R) (height d n (rest n R)) q)))))

  pub one-group : (R : ℕ) → FarSide n R → inner n R ≡ true → AtLeast d n (bit R) 1 → Group d n R ⊎ Group d n (rest n R)
  one-group R f e p = go (one_clear R f p)
    where
      two : 2 ≤ ones R
      two = leb-true 2 (ones R) (and_l (leb 2 (ones R)) (leb (ones R + 2) n) e)

      others : 2 ≤ ones (rest n R)
      others = omega (arith, rest_ones n R f.fits, leb-true (ones R + 2) n (and_r (leb 2 (ones R)) (leb (ones R + 2) n) e))

      go : Clear d n R ⊎ Clear d n (rest n R) → Group d n R ⊎ Group d n (rest n R)
      go (inl g) = let o = other n n R f.fits two in inl (clear_group L d n c R f.fits two g o.0 o.1 (bit-holds R o.0 o.3))
      go (inr g) =
          let o = other n n (rest n R) (rest_fits n R) others in
          inr (clear_group L d n c (rest n R) (rest_fits n R) others g o.0 o.1 (bit-holds (rest n R) o.0 o.3))

  -- ## The tree

  module _ (T : List Row) (x : Exact L d n T) where
    -- 1. Every group, and every image, is one side of a link.
    pub part_link : (S : ℕ) → Part d n S → (S ≡ 2 ^ n - 1 → ⊥) → Memᴰ (link_of n S) (fars T)
    part_link S p ne =
        let r = part_image d n S p in
        let f = part_fits d n S p in
        let some : 0 < S = omega (arith, from-bit r.0 S (holds_true S r.0 r.2), pow_pos r.0) in
        index_link L d n T c x (link_of n S) (link_far n S f (omega (arith, r.1)) some ne)
        (at_least_link n S f L d 1 c (clear_low S (part_clear L d n c t S p)))

    -- the near side where it has image 0
    pub near_link : (S : ℕ) → Part d n S → (S ≡ 2 ^ n - 1 → ⊥) → holds S 0 ≡ true → Memᴰ (rest n S) (fars T)
    near_link S p ne e = rw e at (part_link S p ne)

    -- and the far side where it has not
    pub far_link : (S : ℕ) → Part d n S → holds S 0 ≡ false → Memᴰ S (fars T)
    far_link S p e =
        let r = part_image d n S p in
        rw e at (part_link S p (λ q. omega (arith, holds_false S 0 e, ap (λ (z : ℕ). bit z 0) q, bit_full n 0 (omega (arith, r.1)))))

    -- 2. Every inner link has a group on one of its sides.
    pub link_group : (R : ℕ) → Memᴰ R (fars T) → inner n R ≡ true → Group d n R ⊎ Group d n (rest n R)
    link_group R m e = one-group R (far_of L d n T c x R m) e (link_index L d n T c x R m e)

    -- and every other link has one image there
    pub link_part : (R : ℕ) → Memᴰ R (fars T) → Part d n R ⊎ Part d n (rest n R)
    link_part R m =
        cases (inner n R) (λ e. group-part d n R (link_group R m e)) (λ e. image (not_inner_own n R (far_of L d n T c x R m) e))
      where
        image : (i : ℕ) × (i < n) × (R ≡ own n i) → Part d n R ⊎ Part d n (rest n R)
        image (zero, h, e) = inr (inr (0, h, omega (arith, e, (far_of L d n T c x R m).some)))
        image (suc i, h, e) = inl (inr (suc i, h, e))

    -- so of all divisions exactly those are links
    pub part-far : (R : ℕ) → FarSide n R → Part d n R ⊎ Part d n (rest n R) → Memᴰ R (fars T)
    part-far R f (inl p) = index_link L d n T c x R f (clear_low R (part_clear L d n c t R p))
    part-far R f (inr p) =
        let q = at_least_rest n (rest n R) (rest_fits n R) L d 1 c (clear_low (rest n R) (part_clear L d n c t (rest n R) p)) in
        index_link L d n T c x R f (rw (rest-rest n R f.fits) at q)

    pub links_are : (R : ℕ) → FarSide n R → Memᴰ R (fars T) ↔ (Part d n R ⊎ Part d n (rest n R))
    links_are R f = (link_part R, part-far R f)

    pub inner_are : (R : ℕ) → FarSide n R → inner n R ≡ true → Memᴰ R (fars T) ↔ (Group d n R ⊎ Group d n (rest n R))
    inner_are R f e = (λ m. link_group R m e, λ g. part-far R f (group-part d n R g))
