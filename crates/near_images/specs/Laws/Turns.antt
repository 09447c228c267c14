-- Turns of the loops that find the near images. Assumes nothing.
use Rattle.std.specs.Prelude.{false, true, ◌≡◌, max, suc, ℕ, ◌+◌, ◌<◌, ◌^◌, ◌≤◌, eqb, ltb}
use Rattle.std.proofs.Common.{ap, sym, ◌∙◌, arith, eqb-true, ltb-false, ltb-true}
use Rattle.std.proofs.lemmas.Bool.{eqb-false}
use borrow.Table.Steps.{cases}
use Rattle.ground.specs.Counts.{one_if}
use Rattle.ground.specs.Laws.Bits.{bit-above, bit_same, bit-top}
use Rattle.upper_sides.specs.Chains.{pick}
use Rattle.near_images.specs.Near.{Closest, NearImages, near_image}

module _ (d : ℕ → ℕ → ℕ) (k : ℕ) where
  pub closest_none : Closest d k 2 1
  closest_none = record { some = omega arith; below = omega arith; least = λ y g h. let e : y ≡ 1 = omega arith in rw e (omega arith) }

  pub closest_more : (y b r : ℕ) → 2 ≤ y → Closest d k y b → r ≡ pick (ltb (d k y + d 0 b) (d k b + d 0 y)) y b → Closest d k (y + 1) r
  closest_more y b r g c e =
      cases (ltb (d k y + d 0 b) (d k b + d 0 y))
      (λ t. let q = ltb-true (d k y + d 0 b) (d k b + d 0 y) t in let s = rw t at e in
      rw s (record {
        some = omega arith;
        below = omega arith;
        least = λ x u v. cases (eqb x y) (λ w. rw (eqb-true x y w) (omega arith)) (λ w. omega (arith, c.least x u (omega (arith, eqb-false x y w))));
      }))
      (λ t. let q = ltb-false (d k y + d 0 b) (d k b + d 0 y) t in let s = rw t at e in
      rw s (record {
        some = c.some;
        below = omega (arith, c.below);
        least = λ x u v. cases (eqb x y) (λ w. rw (eqb-true x y w) q) (λ w. c.least x u (omega (arith, eqb-false x y w)));
      }))

  pub closest_end : (y b : ℕ) → k ≤ y → y ≤ max 2 k → Closest d k y b → Closest d k k b
  closest_end y b g h c = record { some = c.some; below = omega (arith, c.below); least = λ x u v. c.least x u (omega arith) }

  module _ (b : ℕ) where
    pub near_none : NearImages d k b 1 0
    near_none = record { fits = omega arith; zero = omega arith; bits = λ y g h. absurd (omega arith) }

    pub near_yes : (y m : ℕ) → 1 ≤ y → NearImages d k b y m → near_image d k b y ≡ true → NearImages d k b (y + 1) (2 ^ y + m)
    near_yes y m g n e =
        let q : y + 1 ≡ suc y = omega arith in
        rw q (record {
          fits = omega (arith, n.fits);
          zero = bit_same m y 0 g ∙ n.zero;
          bits = λ x u v. cases (eqb x y)
              (λ w. rw (eqb-true x y w) (bit-top m y n.fits ∙ ap one_if (sym e)))
              (λ w. let l : x < y = omega (arith, eqb-false x y w) in bit_same m y x l ∙ n.bits x u l);
        })

    pub near_no : (y m : ℕ) → NearImages d k b y m → near_image d k b y ≡ false → NearImages d k b (y + 1) m
    near_no y m n e =
        let q : y + 1 ≡ suc y = omega arith in
        rw q (record {
          fits = omega (arith, n.fits);
          zero = n.zero;
          bits = λ x u v. cases (eqb x y)
              (λ w. rw (eqb-true x y w) (bit-above m y y n.fits (omega arith) ∙ ap one_if (sym e)))
              (λ w. n.bits x u (omega (arith, eqb-false x y w)));
        })
