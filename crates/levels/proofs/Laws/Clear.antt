-- A set is clear of the other images when its entries inside are below those with an image outside. With the three-point condition the
-- sets that are clear are exactly the groups and the single images, and each is one side of a division with index above 0.
-- Assumes nothing.
use Rattle.std.specs.Prelude.{false, true, ◌≡◌, ℕ, ◌+◌, ◌<◌, ◌^◌, ◌≤◌, eqb, leb}
use Rattle.std.proofs.lemmas.Bool.{false≢true, eqb-false}
use Rattle.std.proofs.Common.{inl, inr, ap, sym, ◌∙◌, arith, eqb-true, leb-false, leb-true}
use Rattle.std.specs.Int.Count.{ones}
use Rattle.std.proofs.Math.Pow.{pow-lt}
use borrow.Table.Steps.{cases}
use Rattle.ground.specs.Laws.Bits.{bit_pow, bit_pow_other}
use Rattle.ground.specs.Laws.Ones.{ones_in_lem, ones_one}
use Rattle.theory.specs.FarSides.{holds}
use Rattle.theory.specs.Laws.Nested.{bit-holds, holds_true}
use Rattle.theory.specs.Tables.{WellFormed}
use Rattle.levels.specs.Groups.{Group, height}
use Rattle.levels.proofs.Laws.Balls.{ball_in, group-ball}
use Rattle.levels.specs.Laws.Heights.{height-at, le_height}
use Rattle.levels.specs.Laws.Sets.{holds_ext, other}
use Rattle.levels.specs.Sides.{Part}
use Rattle.leveling.proofs.Laws.ThreePoint.{low}
use Rattle.leveling.specs.ThreePoint.{ThreePoint}

-- S is clear of the other images: an image inside is nearer to all images inside than to any outside
pub record Clear (d : ℕ → ℕ → ℕ) (n S : ℕ) : Type 0 where
  pub below : {i j k : ℕ} → i < n → j < n → k < n → holds S i ≡ true → holds S j ≡ true → holds S k ≡ false → d i j < d i k

-- the set of one image holds no other
pub only : (x i : ℕ) → holds (2 ^ x) i ≡ true → i ≡ x
only x i e =
    cases (eqb i x) (λ t. eqb-true i x t)
    (λ t. absurd (omega (arith, holds_true (2 ^ x) i e, bit_pow_other x i (λ q. eqb-false i x t (sym q)))))

-- a set that holds an image
pub set-some : (S i : ℕ) → holds S i ≡ true → 1 ≤ ones S
set-some S i e = ones_in_lem i S (holds_true S i e)

-- a group or one image has no image beyond n, and is not empty
pub part_fits : (d : ℕ → ℕ → ℕ) (n S : ℕ) → Part d n S → S < 2 ^ n
part_fits d n S (inl g) = g.is.fits
part_fits d n S (inr r) = rw r.2 (pow-lt r.1)

pub part_image : (d : ℕ → ℕ → ℕ) (n S : ℕ) → Part d n S → (i : ℕ) × (i < n) × (holds S i ≡ true)
part_image d n S (inl g) = let o = other n n S g.is.fits g.two in (o.0, o.1, bit-holds S o.0 o.3)
part_image d n S (inr r) = (r.0, r.1, rw r.2 (bit-holds (2 ^ r.0) r.0 (bit_pow r.0)))

module _ (L : ℕ) (d : ℕ → ℕ → ℕ) (n : ℕ) (c : WellFormed L d n) where
  pub image_clear : (x : ℕ) → x < n → Clear d n (2 ^ x)
  image_clear x h = record {
    below = λ {i} {j} {k} hi hj hk si sj sk.
        let ei = only x i si in
        let ej = only x j sj in
        omega (
          arith,
          ap (d i) (ej ∙ sym ei),
          c.self hi,
          c.nonzero hi hk (λ q. false≢true (sym sk ∙ ap (holds (2 ^ x)) (sym q) ∙ si)),
        );
  }

  -- a clear set of two or more images is a group: with any other image it would have an entry above its height
  pub clear_group : (S : ℕ) → S < 2 ^ n → 2 ≤ ones S → Clear d n S → (i : ℕ) → i < n → holds S i ≡ true → Group d n S
  clear_group S f two g i hi si =
      let r = height-at d n S i hi si in
      record {
        two = two;
        row = r.0;
        column = r.1;
        entry = (r.2, r.3);
        is = record {
          fits = f;
          under = λ a b ha hb sa sb. omega (arith, le_height d n S a b ha hb sa sb, r.6);
          largest = λ R fr w u. holds_ext n R S fr f (λ k l s.
              cases (holds S k) (λ e. e)
              (λ e. absurd (omega (arith, g.below r.2 r.3 l r.4 r.5 e, u r.0 k r.2 l (w r.0 r.2 r.4) s)))) w;
        };
      }

  pub clear_part : (S : ℕ) → S < 2 ^ n → Clear d n S → (i : ℕ) → i < n → holds S i ≡ true → Part d n S
  clear_part S f g i hi si =
      cases (leb 2 (ones S)) (λ e. inl (clear_group S f (leb-true 2 (ones S) e) g i hi si))
      (λ e. inr (ones_one n S f (omega (arith, leb-false 2 (ones S) e, set-some S i si))))

  module _ (t : ThreePoint d n) where
    pub group_clear : (S : ℕ) → Group d n S → Clear d n S
    group_clear S g = record {
      below = λ {i} {j} {k} hi hj hk si sj sk.
          cases (leb (d i k) (height d n S))
          (λ e. absurd (false≢true (sym sk ∙ ap (λ (x : ℕ). holds x k) (group-ball L d n c t S g i hi si)
          ∙ ball_in d n i (height d n S) k hk (leb-true (d i k) (height d n S) e))))
          (λ e. omega (arith, leb-false (d i k) (height d n S) e, le_height d n S i j hi hj si sj));
    }

    pub part_clear : (S : ℕ) → Part d n S → Clear d n S
    part_clear S (inl g) = group_clear S g
    part_clear S (inr r) = rw r.2 (image_clear r.0 r.1)

    -- an image outside has one entry with all images inside
    pub clear_same : (S : ℕ) → Clear d n S → (i j k : ℕ) → i < n → j < n → k < n
        → holds S i ≡ true → holds S j ≡ true → holds S k ≡ false → d i k ≡ d j k
    clear_same S g i j k hi hj hk si sj sk =
        omega (
          arith,
          g.below hi hj hk si sj sk,
          g.below hj hi hk sj si sk,
          c.same hi hj,
          c.same hi hk,
          c.same hj hk,
          low t hi hk hj,
          low t hj hk hi,
        )

    -- every choice gains: the entry of the two outside is at most the larger of the two between, and that of the two inside below the other
    pub clear_choice : (S : ℕ) → Clear d n S → (i j k l : ℕ) → i < n → j < n → k < n → l < n
        → holds S i ≡ true → holds S j ≡ true → holds S k ≡ false → holds S l ≡ false → 1 + d i j + d k l ≤ d i k + d j l
    clear_choice S g i j k l hi hj hk hl si sj sk sl =
        omega (
          arith,
          clear_same S g i j l hi hj hl si sj sl,
          g.below hi hj hk si sj sk,
          g.below hi hj hl si sj sl,
          low t hk hl hi,
          c.same hi hk,
          c.same hi hl,
        )
