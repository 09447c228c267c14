-- The doubled costs of the exact tree of a table with levels. With h the height of a group or of one image, and p the least entry of its
-- images with an image outside: p - h, and where the other images are a group or one image too, 2 p - h - h' with their height h'.
-- Assumes nothing.
use Rattle.std.specs.Prelude.{false, true, ◌&&◌, List, ◌⊎◌, ◌≡◌, ℕ, ◌*◌, ◌+◌, ◌-◌, ◌<◌, ◌^◌, ◌≤◌, eqb}
use Rattle.std.proofs.Common.{inl, inr, arith, eqb-true}
use Rattle.std.proofs.lemmas.Bool.{eqb-false}
use Rattle.ground.specs.Bits.{bit}
use Rattle.ground.specs.Laws.Tests.{and_l, and_not_both, and_r}
use Rattle.theory.specs.FarSides.{holds}
use Rattle.theory.specs.Index.{AtLeast}
use Rattle.theory.specs.Laws.Nested.{bit-holds, bit_holds_not, find}
use Rattle.theory.specs.LinkTables.{Row, cost_of}
use Rattle.theory.specs.Readings.{Exact}
use Rattle.theory.specs.Tables.{WellFormed}
use Rattle.levels.specs.Groups.{height}
use Rattle.levels.proofs.Laws.Clear.{Clear}
use Rattle.levels.proofs.Laws.Clear.{clear_same}
use Rattle.levels.proofs.Laws.Balls.{height-from}
use Rattle.levels.specs.Laws.Heights.{le_height}
use Rattle.levels.specs.Laws.LinkIndex.{link_cost}
use Rattle.levels.specs.Laws.Rest.{in_rest, not_in_rest, rest_in, rest_not_in}
use Rattle.levels.specs.Sides.{link_of, rest}
use Rattle.leveling.proofs.Laws.ThreePoint.{low}
use Rattle.leveling.specs.ThreePoint.{ThreePoint}

-- ## Of a clear set: image i in it, image k outside as near to i as any

module _ (L : ℕ) (d : ℕ → ℕ → ℕ) (n : ℕ) (c : WellFormed L d n) (t : ThreePoint d n) (S i k : ℕ) (f : S < 2 ^ n) (g : Clear d n S)
    (hi : i < n) (hk : k < n) (si : holds S i ≡ true) (sk : holds S k ≡ false) (least : (l : ℕ) → l < n → holds S l ≡ false → d i k ≤ d i l) where
  -- the height of S is below that entry
  under : height d n S < d i k
  under = let u = height-from L d n c t S i hi si in omega (arith, g.below hi u.1 hk si u.2 sk, u.3)

  -- so much every choice gains: the entry of the two outside is at most the larger of the two between
  alone_low : AtLeast d n (bit S) (d i k - height d n S)
  alone_low = record {
    low = λ {a} {a'} {b} {b'} ha ha' hb hb'.
        let na = bit_holds_not S a ha.1 in
        let na' = bit_holds_not S a' ha'.1 in
        let sb = bit-holds S b hb.1 in
        let sb' = bit-holds S b' hb'.1 in
        omega (
          arith,
          under,
          le_height d n S b b' hb.0 hb'.0 sb sb',
          least a ha.0 na,
          least a' ha'.0 na',
          clear_same L d n c t S g b i a hb.0 hi ha.0 sb si na,
          clear_same L d n c t S g b' i a' hb'.0 hi ha'.0 sb' si na',
          c.same ha.0 hb.0,
          c.same ha'.0 hb'.0,
          low t ha.0 ha'.0 hi,
          c.same ha.0 hi,
          c.same ha'.0 hi,
        );
  }

  module _ (o : Clear d n (rest n S)) where
    -- where the other images are clear too, all entries between the sides are that one, and their height is below it
    pub between : (a b : ℕ) → a < n → b < n → holds S a ≡ false → holds S b ≡ true → d a b ≡ d i k
    between a b ha hb na sb =
        omega (
          arith,
          clear_same L d n c t (rest n S) o a k i ha hk hi (in_rest n S f a ha na) (in_rest n S f k hk sk) (not_in_rest n S f i hi si),
          clear_same L d n c t S g b i a hb hi ha sb si na,
          c.same hi hk,
          c.same hi ha,
          c.same ha hb,
        )

    rest_under : height d n (rest n S) < d i k
    rest_under =
        let u = height-from L d n c t (rest n S) k hk (in_rest n S f k hk sk) in
        omega (arith, o.below hk u.1 hi (in_rest n S f k hk sk) u.2 (not_in_rest n S f i hi si), u.3, c.same hi hk)

    -- and so much every choice gains
    both_low : AtLeast d n (bit S) (2 * d i k - height d n S - height d n (rest n S))
    both_low = record {
      low = λ {a} {a'} {b} {b'} ha ha' hb hb'.
          let na = bit_holds_not S a ha.1 in
          let na' = bit_holds_not S a' ha'.1 in
          let sb = bit-holds S b hb.1 in
          let sb' = bit-holds S b' hb'.1 in
          omega (
            arith,
            between a b ha.0 hb.0 na sb,
            between a' b' ha'.0 hb'.0 na' sb',
            under,
            rest_under,
            le_height d n S b b' hb.0 hb'.0 sb sb',
            le_height d n (rest n S) a a' ha.0 ha'.0 (in_rest n S f a ha.0 na) (in_rest n S f a' ha'.0 na'),
          );
    }

    pub both-cost : (T : List Row) → Exact L d n T → cost_of T (link_of n S) + height d n S + height d n (rest n S) ≡ 2 * d i k
    both-cost T x =
        let u = height-from L d n c t S i hi si in
        let v = height-from L d n c t (rest n S) k hk (in_rest n S f k hk sk) in
        let sv = rest_in n S f v.0 v.1 v.2 in
        let w = 2 * d i k - height d n S - height d n (rest n S) in
        let e = link_cost L d n c T x S w f both_low i u.0 k v.0 hi u.1 hk v.1 si u.2 sk sv
        (omega (arith, under, rest_under, u.3, v.3, between v.0 u.0 v.1 u.1 sv u.2, c.same v.1 u.1)) in
        omega (arith, e, under, rest_under)

  -- an image l outside is as far from k as from i; or none is, and then all of them are as far from i as k is, and nearer to k: the other
  -- images are clear
  pub alone_or_both : ((l : ℕ) × (l < n) × (holds S l ≡ false) × (d k l ≡ d i l)) ⊎ Clear d n (rest n S)
  alone_or_both = go (find n (λ l. holds (rest n S) l && eqb (d k l) (d i l)))
    where
      go : ((l : ℕ) × (l < n) × ((holds (rest n S) l && eqb (d k l) (d i l)) ≡ true))
          ⊎ ((l : ℕ) → l < n → (holds (rest n S) l && eqb (d k l) (d i l)) ≡ false)
          → ((l : ℕ) × (l < n) × (holds S l ≡ false) × (d k l ≡ d i l)) ⊎ Clear d n (rest n S)
      go (inl r) =
          inl (
            r.0,
            r.1,
            rest_in n S f r.0 r.1 (and_l (holds (rest n S) r.0) (eqb (d k r.0) (d i r.0)) r.2),
            eqb-true (d k r.0) (d i r.0) (and_r (holds (rest n S) r.0) (eqb (d k r.0) (d i r.0)) r.2),
          )
      go (inr w) = inr (record {
        below = λ {i = a} {j = b} {k = j} ha hb hj ra rb rj.
            let e = clear_same L d n c t S g i j a hi hj ha si (rest_not_in n S f j hj rj) (rest_in n S f a ha ra) in
            omega (arith, nearer w a ha ra, nearer w b hb rb, low t ha hb hk, c.same ha hk, c.same hb hk, e, c.same ha hj);
      })
        where
          nearer : ((l : ℕ) → l < n → (holds (rest n S) l && eqb (d k l) (d i l)) ≡ false) → (l : ℕ) → l < n → holds (rest n S) l ≡ true
              → (d k l < d i k) × (d i l ≡ d i k)
          nearer w l hl rl =
              let ne = eqb-false (d k l) (d i l) (and_not_both (holds (rest n S) l) (eqb (d k l) (d i l)) (w l hl) rl) in
              let q = least l hl (rest_in n S f l hl rl) in
              let e : d i l ≡ d i k = omega (arith, q, ne, low t hk hl hi, low t hi hl hk, c.same hk hi, c.same hl hi, c.same hl hk) in
              (omega (arith, e, ne, low t hk hl hi, c.same hk hi, c.same hl hi), e)

  -- with such an l the least gain is attained
  pub alone-cost : (T : List Row) → Exact L d n T → (l : ℕ) → l < n → holds S l ≡ false → d k l ≡ d i l → cost_of T (link_of n S) + height d n S ≡ d i k
  alone-cost T x l hl sl e =
      let u = height-from L d n c t S i hi si in
      let q = link_cost L d n c T x S (d i k - height d n S) f alone_low i u.0 k l hi u.1 hk hl si u.2 sk sl
      (omega (arith, under, u.3, e, clear_same L d n c t S g i u.0 l hi u.1 hl si u.2 sl)) in
      omega (arith, q, under)
