-- What a level says: which entries of image k it stands between, and that its ball has no image after k. Assumes nothing.
use Rattle.std.specs.Prelude.{true, ◌||◌, ◌≡◌, suc, ℕ, ◌<◌, ◌^◌}
use Rattle.std.proofs.Common.{arith}
use Rattle.std.proofs.Math.Dec.{eqb, leb, ltb}
use borrow.Author.Tests.{eq-eqb, eqb-true, leb-false, leb-true, lt-ltb, ltb-true}
use borrow.Table.Steps.{cases}
use Rattle.ground.specs.Laws.Tests.{and_l, and_r}
use Rattle.theory.specs.FarSides.{holds}
use Rattle.theory.specs.Laws.Nested.{holds_false}
use Rattle.leveling.specs.Below.{every, some}
use Rattle.leveling.specs.Laws.Below.{every-at, every_is, some_at, some_is}
use Rattle.levels.specs.Balls.{ball, is_level}
use Rattle.levels.proofs.Laws.Balls.{ball_fits, ball_in, in_ball}
use Rattle.levels.specs.Laws.Sets.{fits_below, holds_ext}

module _ (d : ℕ → ℕ → ℕ) (n k h : ℕ) where
  pub level_before : is_level d n k h ≡ true → (j : ℕ) × (j < k) × (d k j ≡ h)
  unfolding is_level
  level_before e =
      let r = some_at k (λ j. eqb (d k j) h) (and_l (some k (λ j. eqb (d k j) h)) (every n (λ j. leb j k || ltb h (d k j))) e) in
      (r.0, r.1, eqb-true (d k r.0) h r.2)

  pub level_after : is_level d n k h ≡ true → (j : ℕ) → k < j → j < n → h < d k j
  unfolding is_level
  level_after e j l m =
      let r = every-at n (λ j. leb j k || ltb h (d k j)) (and_r (some k (λ j. eqb (d k j) h)) (every n (λ j. leb j k || ltb h (d k j))) e) j m in
      cases (leb j k) (λ q. absurd (omega (arith, leb-true j k q))) (λ q. ltb-true h (d k j) (rw q at r))

  pub level_is : (j : ℕ) → j < k → d k j ≡ h → ((i : ℕ) → k < i → i < n → h < d k i) → is_level d n k h ≡ true
  unfolding is_level
  level_is j l e p =
      rw (some_is k (λ j. eqb (d k j) h) j l (eq-eqb (d k j) h e))
      (every_is n _ (λ i m. cases (leb i k) (λ q. rw q) (λ q. rw (q, lt-ltb h (d k i) (p i (leb-false i k q) m)))))

  -- no image after k
  pub ball-top : is_level d n k h ≡ true → ball d n k h < 2 ^ suc k
  ball-top e =
      fits_below n (suc k) (ball d n k h) (ball_fits d n k h) (λ i l m.
      holds_false (ball d n k h) i (cases (holds (ball d n k h) i)
      (λ s. absurd (omega (arith, in_ball d n k h i m s, level_after e i (omega arith) m))) (λ s. s)))

  -- so the images after k need not be looked at
  pub ball_last : k < n → is_level d n k h ≡ true → ball d (suc k) k h ≡ ball d n k h
  ball_last l e =
      holds_ext (suc k) (ball d (suc k) k h) (ball d n k h) (ball_fits d (suc k) k h) (ball-top e)
      (λ i m s. ball_in d n k h i (omega arith) (in_ball d (suc k) k h i m s))
      (λ i m s. ball_in d (suc k) k h i m (in_ball d n k h i (omega arith) s))
