-- What the index says (I2), and its ends (I5).
-- Assumes nothing.
use Rattle.std.specs.Prelude.{◌↔◌, refl, ◌≡◌, ℕ, ◌*◌, ◌+◌, ◌<◌, ◌≤◌}
use Rattle.std.proofs.Math.Nat.{le_trans}
use Rattle.std.proofs.Common.{arith}
use Rattle.ground.specs.Least.{On}
use Rattle.ground.specs.Laws.Least.{le_least_on, least_on_cap, least_on_le, least_on_same}
use Rattle.theory.specs.Index.{AtLeast, clipped, gain, shifted}
use Rattle.theory.specs.Tables.{WellFormed}

module _ (L : ℕ) (d : ℕ → ℕ → ℕ) (n : ℕ) (s : ℕ → ℕ) where
  pub shifted_cap : shifted L d n s ≤ 4 * L
  unfolding shifted
  shifted_cap = least_on_cap s 0 (4 * L) _ n

  pub shifted_le : {a a' b b' : ℕ} → On n s 0 a → On n s 0 a' → On n s 1 b → On n s 1 b' → shifted L d n s ≤ gain L d a a' b b'
  unfolding shifted
  shifted_le {a} {a'} {b} {b'} ha ha' hb hb' =
      le_trans (least_on_le s 0 (4 * L) _ n a ha) (le_trans (least_on_le s 0 (4 * L) _ n a' ha')
      (le_trans (least_on_le s 1 (4 * L) _ n b hb) (least_on_le s 1 (4 * L) _ n b' hb')))

  pub le_shifted : (v : ℕ) → v ≤ 4 * L
      → ((a a' b b' : ℕ) → On n s 0 a → On n s 0 a' → On n s 1 b → On n s 1 b' → v ≤ gain L d a a' b b') → v ≤ shifted L d n s
  unfolding shifted
  le_shifted v c h =
      le_least_on s 0 (4 * L) _ n v c (λ a ha. le_least_on s 0 (4 * L) _ n v c (λ a' ha'.
      le_least_on s 1 (4 * L) _ n v c (λ b hb. le_least_on s 1 (4 * L) _ n v c (λ b' hb'. h a a' b b' ha ha' hb hb'))))

  module _ (c : WellFormed L d n) where
    -- I2. What the index says, of one pairing of each choice (I1): v ≤ index.
    pub at_least_shifted : (v : ℕ) → v ≤ 2 * L → AtLeast d n s v ↔ (2 * L + v ≤ shifted L d n s)
    at_least_shifted v le = (
      λ p. le_shifted (2 * L + v) (omega arith)
          (λ a a' b b' ha ha' hb hb'. omega (arith, p.low ha ha' hb hb', p.low ha ha' hb' hb, c.same hb.0 hb'.0)),
      λ q. record { low = λ ha ha' hb hb'. omega (arith, shifted_le ha ha' hb hb', c.small ha.0 ha'.0, c.small hb.0 hb'.0) },
    )

    pub clipped_low : 0 < clipped L d n s → AtLeast d n s (clipped L d n s)
    clipped_low h = (at_least_shifted (clipped L d n s) (omega (arith, shifted_cap))).1 (omega arith)

    -- I5. A division that parts two images has an index of at most twice their cost.
    pub at_least_small : (v : ℕ) → {a b : ℕ} → On n s 0 a → On n s 1 b → AtLeast d n s v → v ≤ 2 * d a b
    at_least_small v ha hb p = omega (arith, p.low ha ha hb hb, c.self ha.0, c.self hb.0)

    pub low_clipped : (v : ℕ) → {a b : ℕ} → On n s 0 a → On n s 1 b → AtLeast d n s v → v ≤ clipped L d n s
    low_clipped v ha hb p =
        omega (arith, (at_least_shifted v (omega (arith, at_least_small v ha hb p, c.small ha.0 hb.0))).0 p)

  pub clipped_cap : clipped L d n s ≤ 2 * L
  clipped_cap = omega (arith, shifted_cap)

-- only the sides of the images below n count
pub shifted_same : (L : ℕ) (d : ℕ → ℕ → ℕ) (n : ℕ) (s t : ℕ → ℕ) → ((a : ℕ) → a < n → s a ≡ t a) → shifted L d n s ≡ shifted L d n t
unfolding shifted
shifted_same L d n s t e =
    least_on_same s t 0 (4 * L) _ _ n e (λ a ha. least_on_same s t 0 (4 * L) _ _ n e (λ a' ha'.
    least_on_same s t 1 (4 * L) _ _ n e (λ b hb. least_on_same s t 1 (4 * L) _ _ n e (λ b' hb'. refl))))
