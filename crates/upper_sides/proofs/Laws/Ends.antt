-- The ends of a chain, z alone and all images; and what image k brings with z is the least over a side and the least beside it.
-- Assumes nothing.
use Rattle.std.proofs.Math.Path.{ap}
use Rattle.std.specs.Prelude.{refl, ◌≡◌, suc, ℕ, ◌*◌, ◌+◌, ◌-◌, ◌<◌, ◌^◌, ◌≤◌, eqb}
use Rattle.std.proofs.Common.{le_antisymm, le_trans}
use native.Mathlib.Omega.{arith}
use Rattle.std.proofs.Math.Pow.{pow_pos}
use borrow.Author.Tests.{eqb-false, eqb-true}
use borrow.Table.Steps.{cases}
use Rattle.ground.specs.Bits.{bit}
use Rattle.ground.specs.Laws.Bits.{bit-above, bit_full, bit_pow, bit_pow_other}
use Rattle.ground.specs.Least.{On, least_on}
use Rattle.ground.specs.Laws.Least.{le_least_on, least_on-at, least_on_le, least_on_same}
use Rattle.theory.specs.OneMore.{brought_near, brought_side}
use Rattle.theory.specs.Tables.{WellFormed}
use Rattle.upper_sides.specs.Chains.{ahead, apart_on, near_on}

module _ (L : ℕ) (d : ℕ → ℕ → ℕ) (k : ℕ) (w : WellFormed L d (suc k)) (z : ℕ) (hz : z < k) where
  near_cap : (B : ℕ) → bit B z ≡ 1 → near_on L d k z B ≤ L + d k z
  unfolding near_on
  near_cap B e = omega (arith, least_on_le (bit B) 1 (4 * L) (ahead L d k z) k z (hz, e))

  apart_cap : (B : ℕ) → B < 2 ^ k → apart_on L d k z B ≤ L + d k z
  unfolding apart_on
  apart_cap B f =
      omega (
        arith,
        least_on_le (bit B) 0 (4 * L) (ahead L d z k) (suc k) k (omega arith, bit-above B k k f (omega arith)),
        w.same {i = k} {j = z}
            (omega arith) (omega arith),
      )

  -- z alone
  pub near-own : near_on L d k z (2 ^ z) ≡ L + d k z
  unfolding near_on
  near-own =
      let o : L + d k z ≤ least_on k (bit (2 ^ z)) 1 (4 * L) (ahead L d k z) =
      le_least_on (bit (2 ^ z)) 1 (4 * L) (ahead L d k z) k (L + d k z) (omega (arith, w.small {i = k} {j = z} (omega arith) (omega arith)))
      (λ a o. only a o.1) in
      omega (arith, least_on_le (bit (2 ^ z)) 1 (4 * L) (ahead L d k z) k z (hz, bit_pow z))
    where
      only : (a : ℕ) → bit (2 ^ z) a ≡ 1 → L + d k z ≤ ahead L d k z a
      only a e =
          cases (eqb z a)
          (λ t. let q = eqb-true z a t in rw (← q) (omega (arith, w.self {i = z} (omega arith))))
          (λ t. absurd (omega (arith, bit_pow_other z a (eqb-false z a t))))

  -- all but image k
  pub apart-all : apart_on L d k z (2 ^ k - 1) ≡ L + d k z
  unfolding apart_on
  apart-all =
      let o : L + d k z ≤ least_on (suc k) (bit (2 ^ k - 1)) 0 (4 * L) (ahead L d z k) =
      le_least_on (bit (2 ^ k - 1)) 0 (4 * L) (ahead L d z k) (suc k) (L + d k z) (omega (arith, w.small {i = k} {j = z} (omega arith) (omega arith)))
      (λ a o. only a o.0 o.1) in
      omega (arith, apart_le)
    where
      apart_le : least_on (suc k) (bit (2 ^ k - 1)) 0 (4 * L) (ahead L d z k) ≤ L + d k z
      apart_le =
          omega (
            arith,
            least_on_le (bit (2 ^ k - 1)) 0 (4 * L) (ahead L d z k) (suc k) k
                (omega arith, bit-above (2 ^ k - 1) k k (omega (arith, pow_pos k)) (omega arith)),
            w.same {i = k} {j = z} (omega arith) (omega arith),
          )

      only : (a : ℕ) → a < suc k → bit (2 ^ k - 1) a ≡ 0 → L + d k z ≤ ahead L d z k a
      only a h e =
          cases (eqb a k)
          (λ t. let q = eqb-true a k t in rw q (omega (arith, w.self {i = k} (omega arith), w.same {i = k} {j = z} (omega arith) (omega arith))))
          (λ t. absurd (omega (arith, bit_full k a (omega (arith, eqb-false a k t)))))

  -- what image k brings with z on the side B: the least over B, and the least beside it
  module _ (B : ℕ) (f : B < 2 ^ k) (e : bit B z ≡ 1) where
    outside : bit B k ≡ 0
    outside = bit-above B k k f (omega arith)

    near_same : brought_near L d k (bit B) z ≡ near_on L d k z B
    unfolding brought_near near_on
    near_same =
        rw outside (least_on_same (bit B) (bit B) 1 (4 * L) (λ b. L + d k b - d b z) (ahead L d k z) k (λ a h. refl)
        (λ a h. ap (λ x. L + d k a - x) (w.same {i = a} {j = z} (omega arith) (omega arith))))

    -- beside B some image has the least value
    apart-at : (a : ℕ) × On (suc k) (bit B) 0 a × (apart_on L d k z B ≡ ahead L d z k a)
    unfolding apart_on
    apart-at =
        least_on-at (bit B) 0 (4 * L) (ahead L d z k) (suc k) k (omega arith, outside) (omega (arith, w.small {i = z} {j = k} (omega arith) (omega arith)))

    apart_le : (a : ℕ) → On (suc k) (bit B) 0 a → apart_on L d k z B ≤ ahead L d z k a
    unfolding apart_on
    apart_le a o = least_on_le (bit B) 0 (4 * L) (ahead L d z k) (suc k) a o

    below : brought_side L d k (bit B) z ≤ near_on L d k z B + apart_on L d k z B
    unfolding brought_side
    below =
        let a = apart-at in
        rw (near_same, outside)
        (le_trans (least_on_le (bit B) 0 (4 * L) (λ a. near_on L d k z B + (L + d a z - d k a)) (suc k) a.0 a.1)
        (omega (arith, a.2, w.same {i = a.0} {j = z} a.1.0 (omega arith))))

    above : near_on L d k z B + apart_on L d k z B ≤ brought_side L d k (bit B) z
    unfolding brought_side
    above =
        rw (near_same, outside)
        (le_least_on (bit B) 0 (4 * L) (λ a. near_on L d k z B + (L + d a z - d k a)) (suc k) (near_on L d k z B + apart_on L d k z B)
        (omega (arith, near_cap B e, apart_cap B f, w.small {i = k} {j = z} (omega arith) (omega arith)))
        (λ a o. omega (arith, apart_le a o, w.same {i = a} {j = z} o.0 (omega arith))))

    pub side-sum : brought_side L d k (bit B) z ≡ near_on L d k z B + apart_on L d k z B
    side-sum = le_antisymm below above
