-- The far end is the one image that its definition's words name, and a loop over the images finds it. Assumes nothing.
use Rattle.std.proofs.Math.Path.{refl}
use Rattle.std.specs.Prelude.{◌≡◌, ltb}
use Prim.Native.Nat.{suc, zero, ℕ, ◌+◌, ◌-◌, ◌<◌, ◌≤◌}
use native.Mathlib.Omega.{arith}
use Rattle.std.proofs.Common.{ltb-false, ltb-true}
use borrow.Table.Steps.{cases}
use Rattle.far_end.specs.FarEnd.{IsFarEnd, far_end, farther_of, farthest}

module _ (d : ℕ → ℕ → ℕ) where
  -- one image more is the far end, or the one so far stays
  is_more : (n x : ℕ) → IsFarEnd d n x → IsFarEnd d (suc n) (farther_of d n x)
  is_more n x f =
      cases (ltb (d 0 x) (d 0 n))
      (λ e. rw e (let h : d 0 x < d 0 n = ltb-true (d 0 x) (d 0 n) e in record {
        other = omega (arith, f.other, f.image);
        image = omega arith;
        greatest = λ w l g. cases (ltb w n)
            (λ b. omega (arith, f.greatest w l (ltb-true w n b)))
            (λ b. let q : w ≡ n = omega (arith, ltb-false w n b) in rw q (omega arith));
        lowest = λ w l g s. cases (ltb w n)
            (λ b. absurd (omega (arith, f.greatest w l (ltb-true w n b))))
            (λ b. ltb-false w n b);
      }))
      (λ e. rw e (let h : d 0 n ≤ d 0 x = ltb-false (d 0 x) (d 0 n) e in record {
        other = f.other;
        image = omega (arith, f.image);
        greatest = λ w l g. cases (ltb w n)
            (λ b. f.greatest w l (ltb-true w n b))
            (λ b. let q : w ≡ n = omega (arith, ltb-false w n b) in rw q h);
        lowest = λ w l g s. cases (ltb w n)
            (λ b. f.lowest w l (ltb-true w n b) s)
            (λ b. omega (arith, ltb-false w n b, f.image));
      }))

  farthest_is : (m : ℕ) → IsFarEnd d (m + 2) (farthest d m)
  unfolding farthest
  farthest_is zero = record {
    other = omega arith;
    image = omega arith;
    greatest = λ w l h. let q : w ≡ 1 = omega arith in rw q (omega arith);
    lowest = λ w l h s. l;
  }
  farthest_is (suc m) = let e : suc m + 2 ≡ suc (m + 2) = omega arith in rw e (is_more (m + 2) (farthest d m) (farthest_is m))

  -- among two images or more it names one of the others, none costs more from image 0, and of equals it is the lowest
  pub far_end_is : (n : ℕ) → 2 ≤ n → IsFarEnd d n (far_end d n)
  far_end_is n h = let e : n - 2 + 2 ≡ n = omega arith in rw e at (farthest_is (n - 2))

  -- and no other image is all that
  pub far_end_only : (n x : ℕ) → 2 ≤ n → IsFarEnd d n x → x ≡ far_end d n
  far_end_only n x h f =
      let g = far_end_is n h in
      let s : d 0 x ≡ d 0 (far_end d n) =
      omega (arith, f.greatest (far_end d n) g.other g.image, g.greatest x f.other f.image) in
      omega (arith, f.lowest (far_end d n) g.other g.image (omega arith), g.lowest x f.other f.image s)

  -- ## The loop: before it, one turn, after it

  pub farthest_none : 1 ≡ farthest d (2 - 2)
  unfolding farthest
  farthest_none = refl

  pub farthest-more : (w x r : ℕ) → 2 ≤ w → x ≡ farthest d (w - 2) → r ≡ farther_of d w x → r ≡ farthest d (w + 1 - 2)
  unfolding farthest
  farthest-more w x r h e f =
      let a : w + 1 - 2 ≡ suc (w - 2) = omega arith in
      let b : w - 2 + 2 ≡ w = omega arith in
      rw (a, b, ← e) f

  pub farthest_end : (w n x : ℕ) → w ≤ n → n ≤ w → x ≡ farthest d (w - 2) → x ≡ far_end d n
  farthest_end w n x l g e = let q : w ≡ n = omega arith in rw (← q) e

  pub farther_lt : (n w x : ℕ) → w < n → x < n → farther_of d w x < n
  farther_lt n w x h g = cases (ltb (d 0 x) (d 0 w)) (λ e. rw e h) (λ e. rw e g)

-- what the loop's function names
pub ruleset turns = (farthest_none, farthest-more, farthest_end, farther_lt)
