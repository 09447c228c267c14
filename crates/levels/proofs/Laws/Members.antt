-- A member sum one image more at a time, as the loop of `level_at` has it. Assumes nothing.
use Rattle.std.specs.Prelude.{Bool, false, true, ◌≡◌, suc, zero, ℕ, ◌*◌, ◌+◌, ◌<◌, ◌^◌, ◌≤◌}
use Rattle.std.proofs.Common.{ap, ◌∙◌, lt_of_lt_of_le, add-one, arith, pow_mono}
use Rattle.std.proofs.Math.Path.{refl}
use Rattle.std.proofs.Math.Dec.{leb}
use borrow.Table.Steps.{cases}
use Rattle.ground.specs.Bits.{num}
use Rattle.ground.specs.Counts.{one_if}
use Rattle.ground.specs.Sums.{when}
use Rattle.levels.specs.Balls.{ball}
use Rattle.levels.proofs.Laws.Balls.{ball_fits}

when_double : (b : Bool) (x : ℕ) → when b (2 * x) ≡ 2 * when b x
when_double true x = refl
when_double false x = refl

num-more : (p : ℕ → Bool) (k : ℕ) → num (suc k) (λ i. one_if (p i)) ≡ num k (λ i. one_if (p i)) + when (p k) (2 ^ k)
num-more p zero = cases (p 0) (λ e. rw e (omega arith)) (λ e. rw e (omega arith))
num-more p (suc k) =
    let e : 2 ^ suc k ≡ 2 * 2 ^ k = omega arith in
    omega (arith, num-more (λ i. p (suc i)) k, when_double (p (suc k)) (2 ^ k), ap (when (p (suc k))) e)

module _ (d : ℕ → ℕ → ℕ) (k h : ℕ) where
  pub ball_none : 0 ≡ ball d 0 k h
  unfolding ball
  ball_none = refl

  pub ball-more : (j : ℕ) {s r : ℕ} → s ≡ ball d j k h → r ≡ s + when (leb (d k j) h) (2 ^ j) → r ≡ ball d (j + 1) k h
  unfolding ball
  ball-more j e f = f ∙ rw (add-one, num-more (λ i. leb (d k i) h) j, e)

  -- there is place for one image more in 64 bits
  pub ball-room : (j : ℕ) {s : ℕ} → j < 64 → s ≡ ball d j k h → s + 2 ^ j < 2 ^ 64
  ball-room j {s} l e =
      let m : 2 ^ suc j ≤ 2 ^ 64 = pow_mono {i = suc j} {j = 64} (omega arith) in
      lt_of_lt_of_le (omega (arith, e, ball_fits d j k h)) m

  -- all images up to k
  pub ball_end : (j : ℕ) {s : ℕ} → j ≤ k + 1 → k + 1 ≤ j → s ≡ ball d j k h → s ≡ ball d (suc k) k h
  ball_end j l g e = let q : j ≡ suc k = omega arith in rw (← q) e
