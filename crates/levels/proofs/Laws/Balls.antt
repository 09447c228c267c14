-- With the three-point condition the groups are balls: all images at most the group's height away from any one of its images.
-- Assumes nothing.
use Rattle.std.specs.Prelude.{true, ◌≡◌, ℕ, ◌<◌, ◌^◌, ◌≤◌, eqb, ltb}
use Rattle.std.proofs.Common.{ap, sym, ◌∙◌, arith}
use Rattle.std.specs.Int.Count.{ones}
use Rattle.std.proofs.Math.Dec.{leb}
use borrow.Author.Tests.{eqb-false, eqb-true, le-leb, leb-false, leb-true, ltb-false, ltb-true}
use borrow.Table.Steps.{cases}
use Rattle.ground.specs.Laws.Ones.{ones_in_two}
use Rattle.theory.specs.FarSides.{holds}
use Rattle.theory.specs.Laws.Nested.{bit-holds, holds_true}
use Rattle.theory.specs.Tables.{WellFormed}
use Rattle.levels.specs.Balls.{ball}
use Rattle.levels.specs.Groups.{AtMost, Group, Largest, height}
use Rattle.levels.specs.Laws.Heights.{height-at, height_le, le_height}
use Rattle.levels.specs.Laws.Sets.{holds_ext, other, set_fits, set_holds}
use Rattle.leveling.proofs.Laws.ThreePoint.{low}
use Rattle.leveling.specs.ThreePoint.{ThreePoint}

module _ (d : ℕ → ℕ → ℕ) (n i h : ℕ) where
  pub ball_fits : ball d n i h < 2 ^ n
  unfolding ball
  ball_fits = set_fits n (λ j. leb (d i j) h)

  pub ball_in : (k : ℕ) → k < n → d i k ≤ h → holds (ball d n i h) k ≡ true
  unfolding ball
  ball_in k l e = set_holds n (λ j. leb (d i j) h) k l ∙ le-leb (d i k) h e

  pub in_ball : (k : ℕ) → k < n → holds (ball d n i h) k ≡ true → d i k ≤ h
  unfolding ball
  in_ball k l e = leb-true (d i k) h (sym (set_holds n (λ j. leb (d i j) h) k l) ∙ e)

-- two images make two ones
pub two_images : (S i j : ℕ) → (i ≡ j → ⊥) → holds S i ≡ true → holds S j ≡ true → 2 ≤ ones S
two_images S i j ne si sj =
    cases (ltb i j) (λ e. ones_in_two i j S (ltb-true i j e) (holds_true S i si) (holds_true S j sj))
    (λ e. ones_in_two j i S (omega (arith, ltb-false i j e, ne)) (holds_true S j sj) (holds_true S i si))

module _ (L : ℕ) (d : ℕ → ℕ → ℕ) (n : ℕ) (c : WellFormed L d n) (t : ThreePoint d n) where
  -- B1. A ball is a largest set.
  pub ball_under : (i h : ℕ) → i < n → AtMost d n h (ball d n i h)
  ball_under i h hi j k hj hk sj sk =
      omega (arith, low t hj hk hi, c.same hj hi, c.same hk hi, in_ball d n i h j hj sj, in_ball d n i h k hk sk)

  pub ball-largest : (i h : ℕ) → i < n → Largest d n h (ball d n i h)
  ball-largest i h hi = record {
    fits = ball_fits d n i h;
    under = ball_under i h hi;
    largest = λ R f w u.
        holds_ext n R (ball d n i h) f (ball_fits d n i h)
        (λ k l r. ball_in d n i h k l (u i k hi l (w i hi (ball_in d n i h i hi (omega (arith, c.self hi)))) r)) w;
  }

  -- B2. A largest set is the ball around each of its images.
  pub largest-ball : (h S i : ℕ) → Largest d n h S → i < n → holds S i ≡ true → S ≡ ball d n i h
  largest-ball h S i g hi si =
      sym (g.largest (ball d n i h) (ball_fits d n i h) (λ k l s. ball_in d n i h k l (g.under i k hi l si s)) (ball_under i h hi))

  -- B3. Around two different images the ball is a group, and their entry is its height.
  pub ball-group : (i j : ℕ) → i < n → j < n → (i ≡ j → ⊥) → Group d n (ball d n i (d i j))
  ball-group i j hi hj ne = record {
    two = two_images (ball d n i (d i j)) i j ne (ball_in d n i (d i j) i hi (omega (arith, c.self hi))) (ball_in d n i (d i j) j hj (omega arith));
    row = i;
    column = j;
    entry = (hi, hj);
    is = ball-largest i (d i j) hi;
  }

  pub ball-height : (i j : ℕ) → i < n → j < n → height d n (ball d n i (d i j)) ≡ d i j
  ball-height i j hi hj =
      omega (
        arith,
        height_le d n (ball d n i (d i j)) (d i j) (ball_under i (d i j) hi),
        le_height d n (ball d n i (d i j)) i j hi hj (ball_in d n i (d i j) i hi (omega (arith, c.self hi)))
            (ball_in d n i (d i j) j hj (omega arith)),
      )

  -- the height of a set is an entry of each of its images
  pub height-from : (S i : ℕ) → i < n → holds S i ≡ true → (j : ℕ) × (j < n) × (holds S j ≡ true) × (d i j ≡ height d n S)
  height-from S i hi si =
      let r = height-at d n S i hi si in
      let a = le_height d n S i r.0 hi r.2 si r.4 in
      let b = le_height d n S i r.1 hi r.3 si r.5 in
      cases (leb (height d n S) (d i r.0))
      (λ e. (r.0, r.2, r.4, omega (arith, a, leb-true (height d n S) (d i r.0) e)))
      (λ e. (
        r.1,
        r.3,
        r.5,
        omega (arith, b, r.6, leb-false (height d n S) (d i r.0) e, low t r.2 r.3 hi, c.same r.2 hi, c.same r.3 hi),
      ))

  module _ (S : ℕ) (g : Group d n S) (i : ℕ) (hi : i < n) (si : holds S i ≡ true) where
    -- B4. A group is the ball of its own height around each of its images.
    pub group-ball : S ≡ ball d n i (height d n S)
    group-ball =
        let h = d g.row g.column in
        let e = largest-ball h S i g.is hi si in
        holds_ext n S (ball d n i (height d n S)) g.is.fits (ball_fits d n i (height d n S))
        (λ k l s. ball_in d n i (height d n S) k l (le_height d n S i k hi l si s))
        (λ k l s.
        ap (λ (x : ℕ). holds x k) e
        ∙ ball_in d n i h k l (omega (arith, in_ball d n i (height d n S) k l s, height_le d n S h g.is.under)))

    -- B5. Its height is the entry of that image with another one in it.
    pub group-entry : (j : ℕ) × (j < n) × (j ≡ i → ⊥) × (holds S j ≡ true) × (d i j ≡ height d n S)
    group-entry =
        let r = height-from S i hi si in
        cases (eqb r.0 i)
        (λ e.
        let o = other n i S g.is.fits g.two in
        let so = bit-holds S o.0 o.3 in
        (o.0, o.1, o.2, so, omega (arith, r.3, ap (d i) (eqb-true r.0 i e), c.self hi, le_height d n S i o.0 hi o.1 si so)))
        (λ e. (r.0, r.1, eqb-false r.0 i e, r.2, r.3))
