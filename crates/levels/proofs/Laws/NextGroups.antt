-- The smallest group that contains a group or one image and more: it exists, its height is the least entry of an image inside with one
-- outside, and with the heights of both the doubled cost of the link is known. Assumes nothing.
use Rattle.std.specs.Prelude.{false, not, true, ◌&&◌, List, ◌⊎◌, ◌≡◌, ℕ, ◌*◌, ◌+◌, ◌-◌, ◌<◌, ◌^◌, ◌≤◌}
use Rattle.std.proofs.lemmas.Bool.{false≢true, not-true}
use Rattle.std.proofs.Common.{inl, inr, ap, sym, ◌∙◌, arith, pow_pos}
use borrow.Table.Steps.{cases}
use Rattle.ground.specs.Bits.{bit}
use Rattle.ground.specs.Laws.Bits.{bit_full, bit-some}
use Rattle.ground.specs.Laws.Least.{least_on-at, least_on_le}
use Rattle.ground.specs.Laws.Tests.{and_l, and_not_not, and_r}
use Rattle.theory.specs.FarSides.{Within, holds}
use Rattle.theory.specs.Laws.Nested.{bit-holds, bit_holds_not, find, holds_false}
use Rattle.theory.specs.LinkTables.{Row, cost_of}
use Rattle.theory.specs.Readings.{Exact}
use Rattle.theory.specs.Tables.{WellFormed}
use Rattle.levels.specs.Balls.{ball}
use Rattle.levels.specs.Groups.{Group, height}
use Rattle.levels.proofs.Laws.Balls.{ball-group, ball_in, ball_under, group-ball, in_ball}
use Rattle.levels.proofs.Laws.Clear.{Clear}
use Rattle.levels.proofs.Laws.Clear.{part_clear}
use Rattle.levels.proofs.Laws.Clear.{clear_part, only, part_fits, part_image}
use Rattle.levels.specs.Laws.Sets.{holds_ext}
use Rattle.levels.specs.Laws.Heights.{height_le, le_height}
use Rattle.levels.proofs.Laws.LinkCosts.{alone-cost, alone_or_both, between, both-cost}
use Rattle.levels.specs.Laws.Rest.{in_rest, rest_fits, rest_in}
use Rattle.levels.specs.Sides.{NextGroup, Part, link_of, rest}
use Rattle.leveling.specs.ThreePoint.{ThreePoint}

-- an image that R has beyond S
beyond : (n S R : ℕ) → S < 2 ^ n → R < 2 ^ n → Within n S R → (R ≡ S → ⊥) → (k : ℕ) × (k < n) × (holds R k ≡ true) × (holds S k ≡ false)
beyond n S R f g w ne = go (find n (λ k. holds R k && not (holds S k)))
  where
    go : ((k : ℕ) × (k < n) × ((holds R k && not (holds S k)) ≡ true)) ⊎ ((k : ℕ) → k < n → (holds R k && not (holds S k)) ≡ false)
        → (k : ℕ) × (k < n) × (holds R k ≡ true) × (holds S k ≡ false)
    go (inl r) =
        let k = r.0 in
        (k, r.1, and_l (holds R k) (not (holds S k)) r.2, not-true (holds S k) (and_r (holds R k) (not (holds S k)) r.2))
    go (inr h) = absurd (ne (holds_ext n R S g f (λ k l e. and_not_not (holds R k) (holds S k) (h k l) e) w))

-- one image alone has height 0
pub image_height : (L : ℕ) (d : ℕ → ℕ → ℕ) (n x : ℕ) → WellFormed L d n → height d n (2 ^ x) ≡ 0
image_height L d n x c =
    omega (arith, height_le d n (2 ^ x) 0 (λ i j hi hj si sj. omega (arith, ap (d i) (only x j sj ∙ sym (only x i si)), c.self hi)))

module _ (L : ℕ) (d : ℕ → ℕ → ℕ) (n : ℕ) (c : WellFormed L d n) (t : ThreePoint d n) (S : ℕ) (p : Part d n S) where
  fits : S < 2 ^ n
  fits = part_fits d n S p

  clear : Clear d n S
  clear = part_clear L d n c t S p

  -- the ball around an image i inside that reaches an image k outside is a group that contains S and more
  module _ (i k : ℕ) (hi : i < n) (hk : k < n) (si : holds S i ≡ true) (sk : holds S k ≡ false) where
    reach : Group d n (ball d n i (d i k))
    reach = ball-group L d n c t i k hi hk (λ e. false≢true (sym sk ∙ ap (holds S) (sym e) ∙ si))

    reach-contains : Within n S (ball d n i (d i k))
    reach-contains j hj sj = ball_in d n i (d i k) j hj (omega (arith, clear.below hi hj hk si sj sk))

    reach-more : ball d n i (d i k) ≡ S → ⊥
    reach-more e = false≢true (sym sk ∙ ap (λ (x : ℕ). holds x k) (sym e) ∙ ball_in d n i (d i k) k hk (omega arith))

  -- it exists
  pub next_exists : (S ≡ 2 ^ n - 1 → ⊥) → (P : ℕ) × NextGroup d n S P
  next_exists ne =
      let r = part_image d n S p in
      let i = r.0 in
      let o = bit-some n (rest n S) (omega (arith, fits, ne)) (rest_fits n S) in
      let out = holds_false S o.0 (rest_in n S fits o.0 o.1 (bit-holds (rest n S) o.0 o.2)) in
      let q = least_on-at (bit S) 0 (d i o.0) (d i) n o.0 (o.1, out) (omega arith) in
      let k = q.0 in
      let sk = bit_holds_not S k q.1.1 in (
        ball d n i (d i k),
        record {
          group = reach i k r.1 q.1.0 r.2 sk;
          contains = reach-contains i k r.1 q.1.0 r.2 sk;
          more = reach-more i k r.1 q.1.0 r.2 sk;
          least = λ R g w u j hj sj.
              let b = beyond n S R fits g.is.fits w u in
              ap (λ (x : ℕ). holds x j) (group-ball L d n c t R g i r.1 (w i r.1 r.2))
              ∙ ball_in d n i (height d n R) j hj
              (omega (
                arith,
                in_ball d n i (d i k) j hj sj,
                q.2,
                least_on_le (bit S) 0 (d i o.0) (d i) n b.0 (b.1, holds_false S b.0 b.3),
                le_height d n R i b.0 r.1 b.1 (w i r.1 r.2) b.2,
              ));
        },
      )

  module _ (P : ℕ) (x : NextGroup d n S P) where
    -- no entry between the sides is below its height
    pub next_le : (i k : ℕ) → i < n → k < n → holds S i ≡ true → holds S k ≡ false → height d n P ≤ d i k
    next_le i k hi hk si sk =
        let w = x.least (ball d n i (d i k)) (reach i k hi hk si sk) (reach-contains i k hi hk si sk) (reach-more i k hi hk si sk) in
        height_le d n P (d i k) (λ a b ha hb pa pb. ball_under L d n c t i (d i k) hi a b ha hb (w a ha pa) (w b hb pb))

    -- and one is its height, for each image inside
    pub next-entry : (i : ℕ) → i < n → holds S i ≡ true → (k : ℕ) × (k < n) × (holds S k ≡ false) × (d i k ≡ height d n P)
    next-entry i hi si =
        let b = beyond n S P fits x.group.is.fits x.contains x.more in
        (b.0, b.1, b.3, omega (arith, next_le i b.0 hi b.1 si b.3, le_height d n P i b.0 hi b.1 (x.contains i hi si) b.2))

    near : (i k : ℕ) → i < n → holds S i ≡ true → d i k ≡ height d n P → (l : ℕ) → l < n → holds S l ≡ false → d i k ≤ d i l
    near i k hi si same l hl sl = omega (arith, same, next_le i l hi hl si sl)

    -- where the other images are a group or one image too, all images are the next group
    pub next-all : Part d n (rest n S) → P ≡ 2 ^ n - 1
    next-all o =
        holds_ext n P (2 ^ n - 1) x.group.is.fits (omega (arith, pow_pos n)) (λ l hl e. bit-holds (2 ^ n - 1) l (bit_full n l hl))
        (λ l hl e. cases (holds S l) (x.contains l hl) (outside l hl))
      where
        outside : (l : ℕ) → l < n → holds S l ≡ false → holds P l ≡ true
        outside l hl sl =
            let r = part_image d n S p in
            let i = r.0 in
            let q = next-entry i r.1 r.2 in
            let e = between L d n c t S i q.0 fits clear r.1 q.1 r.2 q.2 (near i q.0 r.1 r.2 q.3)
            (part_clear L d n c t (rest n S) o) l i hl r.1 sl r.2 in
            ap (λ (z : ℕ). holds z l) (group-ball L d n c t P x.group i r.1 (x.contains i r.1 r.2))
            ∙ ball_in d n i (height d n P) l hl (omega (arith, e, q.3, c.same r.1 hl))

    -- 3. The doubled cost of the link that has S on one side.
    module _ (T : List Row) (e : Exact L d n T) where
      pub cost-alone : (Part d n (rest n S) → ⊥) → cost_of T (link_of n S) + height d n S ≡ height d n P
      cost-alone none =
          let r = part_image d n S p in
          let q = next-entry r.0 r.1 r.2 in
          go r.0 q.0 r.1 q.1 r.2 q.2 q.3
          (alone_or_both L d n c t S r.0 q.0 fits clear r.1 q.1 r.2 q.2 (near r.0 q.0 r.1 r.2 q.3))
        where
          go : (i k : ℕ) → i < n → k < n → holds S i ≡ true → holds S k ≡ false → d i k ≡ height d n P
              → ((l : ℕ) × (l < n) × (holds S l ≡ false) × (d k l ≡ d i l)) ⊎ Clear d n (rest n S)
              → cost_of T (link_of n S) + height d n S ≡ height d n P
          go i k hi hk si sk same (inl l) =
              alone-cost L d n c t S i k fits clear hi hk si sk (near i k hi si same) T e l.0 l.1 l.2 l.3 ∙ same
          go i k hi hk si sk same (inr o) = absurd (none (clear_part L d n c (rest n S) (rest_fits n S) o k hk (in_rest n S fits k hk sk)))

      pub cost-both : Part d n (rest n S) → cost_of T (link_of n S) + height d n S + height d n (rest n S) ≡ 2 * height d n P
      cost-both o =
          let r = part_image d n S p in
          let q = next-entry r.0 r.1 r.2 in
          both-cost L d n c t S r.0 q.0 fits clear r.1 q.1 r.2 q.2 (near r.0 q.0 r.1 r.2 q.3)
          (part_clear L d n c t (rest n S) o) T e ∙ ap (λ (v : ℕ). 2 * v) q.3
