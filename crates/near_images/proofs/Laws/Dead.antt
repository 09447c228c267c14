-- Rows that cannot stay: one choice shows it. Assumes nothing.
use Rattle.std.specs.Prelude.{false, not, true, ◌&&◌, ◌⊎◌, refl, ◌≡◌, suc, ℕ, ◌*◌, ◌+◌, ◌<◌, ◌^◌, ◌≤◌, eqb, ltb}
use Rattle.std.proofs.Common.{inl, inr, ap, sym, ◌∙◌, le_trans, arith, eq-eqb, eqb-true, ltb-false, ltb-true}
use Rattle.std.proofs.lemmas.Nat.{and_comm}
use Rattle.std.specs.Int.Bits.{bit_and}
use Rattle.std.proofs.lemmas.Bool.{eqb-false, not-true}
use borrow.Table.Steps.{cases}
use Rattle.ground.specs.Bits.{bit}
use Rattle.ground.specs.Counts.{one_if}
use Rattle.ground.specs.Laws.Bits.{bit-above, bit_lt, bit_same, bit-top}
use Rattle.ground.specs.Laws.Tests.{and_l, and_not_not, and_r, or_cases, or_false}
use Rattle.theory.specs.FarSides.{FarSide, holds}
use Rattle.theory.specs.Laws.Contained.{within_and}
use Rattle.theory.specs.Laws.FarSides.{far_image}
use Rattle.theory.proofs.Laws.FewSteps.{brought_fast_lem}
use Rattle.theory.specs.Laws.Nested.{find, holds_false, holds_true}
use Rattle.theory.proofs.Laws.OneMore.{brought_le}
use Rattle.theory.specs.OneMore.{brought_fast}
use Rattle.theory.specs.Tables.{WellFormed}
use Rattle.near_images.specs.Near.{Closest, NearImages, goes_in, goes_out, near_image}

-- what is not within has an image that is not there
not_within : (k S N : ℕ) → S < 2 ^ k → (bit_and S N ≡ S → ⊥) → (y : ℕ) × (y < k) × (bit S y ≡ 1) × (bit N y ≡ 0)
not_within k S N f h = go (find k (λ i. holds S i && not (holds N i)))
  where
    go : ((i : ℕ) × (i < k) × ((holds S i && not (holds N i)) ≡ true)) ⊎ ((i : ℕ) → i < k → (holds S i && not (holds N i)) ≡ false)
        → (y : ℕ) × (y < k) × (bit S y ≡ 1) × (bit N y ≡ 0)
    go (inl r) = (
      r.0,
      r.1,
      holds_true S r.0 (and_l (holds S r.0) (not (holds N r.0)) r.2),
      holds_false N r.0
          (not-true (holds N r.0) (and_r (holds S r.0) (not (holds N r.0)) r.2)),
    )
    go (inr w) = absurd (h (within_and k S N f (λ i l e. and_not_not (holds S i) (holds N i) (w i l) e)))

module _ (L : ℕ) (d : ℕ → ℕ → ℕ) (k : ℕ) (w : WellFormed L d (suc k)) (b N : ℕ) (p : Closest d k k b) (q : NearImages d k b k N) where
  -- a far side holds an image, so there are two or more, and b is one of them
  pub b-below : (S : ℕ) → FarSide k S → b < k
  b-below S f =
      let i = far_image k S f in
      cases (eqb i.0 0) (λ e. absurd (omega (arith, f.near, i.2, ap (bit S) (eqb-true i.0 0 e))))
      (λ e. omega (arith, i.1, eqb-false i.0 0 e, p.below))

  pub near-b : b < k → bit N b ≡ 1
  near-b h = q.bits b p.some h ∙ rw (eq-eqb b b refl)

  near_yes : (y : ℕ) → 1 ≤ y → y < k → bit N y ≡ 1 → (y ≡ b → ⊥) → d k 0 + d b y < d k b + d 0 y
  near_yes y g h e o =
      cases (near_image d k b y) (λ t. go (or_cases (eqb y b) (ltb (d k 0 + d b y) (d k b + d 0 y)) t))
      (λ t. absurd (omega (arith, e, q.bits y g h, ap one_if t)))
    where
      go : (eqb y b ≡ true) ⊎ (ltb (d k 0 + d b y) (d k b + d 0 y) ≡ true) → d k 0 + d b y < d k b + d 0 y
      go (inl t) = absurd (o (eqb-true y b t))
      go (inr t) = ltb-true (d k 0 + d b y) (d k b + d 0 y) t

  near_not : (y : ℕ) → 1 ≤ y → y < k → bit N y ≡ 0 → d k b + d 0 y ≤ d k 0 + d b y
  near_not y g h e = cases (near_image d k b y) (λ t. absurd (omega (arith, e, q.bits y g h, ap one_if t)))
      (λ t. ltb-false (d k 0 + d b y) (d k b + d 0 y) (or_false (eqb y b) (ltb (d k 0 + d b y) (d k b + d 0 y)) t).1)

  module _ (S : ℕ) (f : FarSide k S) where
    -- an image that a far side holds is not image 0
    held_some : (y : ℕ) → bit S y ≡ 1 → 1 ≤ y
    held_some y e = cases (eqb y 0) (λ t. absurd (omega (arith, f.near, e, ap (bit S) (eqb-true y 0 t)))) (λ t. omega (arith, eqb-false y 0 t))

    outside : bit S k ≡ 0
    outside = bit-above S k k f.fits (omega arith)

    -- image k outside
    pub out_dead : goes_out b N S ≡ false → brought_fast L d k (bit S) ≤ 2 * L
    out_dead e =
        let t = or_false (eqb (bit S b) 0) (eqb (bit_and S N) S) e in
        let y = not_within k S N f.fits (eqb-false (bit_and S N) S t.1) in
        let one : bit S b ≡ 1 = omega (arith, eqb-false (bit S b) 0 t.0, bit_lt S b) in
        rw (brought_fast_lem L d k (bit S) w (bit_lt S k))
        (le_trans (brought_le L d k (bit S) {a = 0} {b = b} {b' = y.0} (omega arith, f.near ∙ sym outside) (b-below S f, omega (arith, outside))
        (y.1, omega (arith, outside, y.2)))
        (omega (arith, near_not y.0 (held_some y.0 y.2) y.1 y.3, w.same {i = b} {j = y.0} (omega (arith, b-below S f)) (omega arith))))

    top : bit (2 ^ k + S) k ≡ 1
    top = bit-top S k f.fits

    -- image k inside
    inside : {a x y : ℕ} → a < k → bit S a ≡ 1 → x < k → bit S x ≡ 0 → y < k → bit S y ≡ 0 → d k x + d a y ≤ d k a + d x y
        → brought_fast L d k (bit (2 ^ k + S)) ≤ 2 * L
    inside {a} {x} {y} ha sa hx sx hy sy h =
        rw (brought_fast_lem L d k (bit (2 ^ k + S)) w (bit_lt (2 ^ k + S) k))
        (le_trans (brought_le L d k (bit (2 ^ k + S)) {a = a} {b = x} {b' = y} (omega arith, bit_same S k a ha ∙ sa ∙ sym top)
        (hx, omega (arith, bit_same S k x hx, top)) (hy, omega (arith, bit_same S k y hy, top))) (omega arith))

    pub in_dead : goes_in N S ≡ false → brought_fast L d k (bit (2 ^ k + S)) ≤ 2 * L
    in_dead e =
        let y = not_within k N S q.fits (λ t. eqb-false (bit_and S N) N e (and_comm S N ∙ t)) in
        let g : 1 ≤ y.0 = cases (eqb y.0 0) (λ t. absurd (omega (arith, q.zero, y.2, ap (bit N) (eqb-true y.0 0 t))))
        (λ t. omega (arith, eqb-false y.0 0 t)) in
        let l = b-below S f in
        cases (eqb (bit S b) 0)
        (λ t. let x = far_image k S f in
        inside {a = x.0} {x = b} {y = 0} x.1 x.2 l (eqb-true (bit S b) 0 t) (omega arith) f.near
        (omega (
          arith,
          p.least x.0 (held_some x.0 x.2) x.1,
          w.same {i = b} {j = 0} (omega arith) (omega arith),
          w.same {i = x.0} {j = 0}
              (omega (arith, x.1)) (omega arith),
        )))
        (λ t. let one : bit S b ≡ 1 = omega (arith, eqb-false (bit S b) 0 t, bit_lt S b) in
        inside {a = b} {x = 0} {y = y.0} l one (omega arith) f.near y.1 y.3
        (omega (arith, near_yes y.0 g y.1 y.2 (λ s. omega (arith, y.3, ap (bit S) s)))))
