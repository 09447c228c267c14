-- Along the chain of an image z: what is least over a side, and beside it, from the side before. Assumes nothing.
use Rattle.std.specs.Prelude.{List, refl, ◌≡◌, min, suc, zero, ℕ, ◌*◌, ◌-◌, ◌<◌, ◌^◌, ◌≤◌, eqb, get_or}
use Rattle.std.proofs.Common.{arith, eq-eqb, eqb-true, ne_eqb}
use Rattle.std.proofs.Math.Pow.{pow-lt}
use Rattle.std.proofs.lemmas.Bool.{eqb-false}
use borrow.Table.Steps.{cases}
use Rattle.ground.specs.Bits.{bit}
use Rattle.ground.specs.Laws.Bits.{bit_lt, bit_pow, bit_pow_other}
use Rattle.ground.specs.Least.{least_on}
use Rattle.upper_sides.specs.Chains.{Chained, ahead, apart_on, depth_at, gap_on, held_at, near_on}
use Rattle.upper_sides.specs.Laws.Parts.{least_beside, least_whole}

-- ## One side more

module _ (B : List ℕ) (z i : ℕ) where
  pub held_in : bit (get_or B i 0) z ≡ 1 → held_at B z (suc i) ≡ get_or B i 0
  unfolding held_at
  held_in e = rw (eq-eqb (bit (get_or B i 0) z) 1 e)

  pub held_out : (bit (get_or B i 0) z ≡ 1 → ⊥) → held_at B z (suc i) ≡ held_at B z i
  unfolding held_at
  held_out e = rw (ne_eqb (bit (get_or B i 0) z) 1 e)

  pub depth_in : bit (get_or B i 0) z ≡ 1 → depth_at B z (suc i) ≡ suc (depth_at B z i)
  unfolding depth_at
  depth_in e = rw (eq-eqb (bit (get_or B i 0) z) 1 e)

  pub depth_out : (bit (get_or B i 0) z ≡ 1 → ⊥) → depth_at B z (suc i) ≡ depth_at B z i
  unfolding depth_at
  depth_out e = rw (ne_eqb (bit (get_or B i 0) z) 1 e)

pub held_none : (B : List ℕ) (z : ℕ) → held_at B z 0 ≡ 2 ^ z
unfolding held_at
held_none B z = refl

pub depth_none : (B : List ℕ) (z : ℕ) → depth_at B z 0 ≡ 0
unfolding depth_at
depth_none B z = refl

pub chained_less : (k : ℕ) (B : List ℕ) (m n : ℕ) → m ≤ n → Chained k B n → Chained k B m
chained_less k B m n h c = record { fits = λ i l. c.fits i (omega arith); grows = λ i j z y g l. c.grows i j z y g (omega arith) }

-- ## Along the chain of z

module _ (k : ℕ) (B : List ℕ) (m : ℕ) (c : Chained k B m) (z : ℕ) (hz : z < k) where
  pub held_fits : (i : ℕ) → i ≤ m → held_at B z i < 2 ^ k
  held_fits zero h = rw (held_none B z) (pow-lt hz)
  held_fits (suc i) h =
      cases (eqb (bit (get_or B i 0) z) 1)
      (λ e. rw (held_in B z i (eqb-true (bit (get_or B i 0) z) 1 e)) (c.fits i h))
      (λ e. rw (held_out B z i (eqb-false (bit (get_or B i 0) z) 1 e)) (held_fits i (omega arith)))

  -- what is held is within every later side of the chain
  pub held_within : (i j : ℕ) → i ≤ j → j < m → bit (get_or B j 0) z ≡ 1 → (y : ℕ) → bit (held_at B z i) y ≤ bit (get_or B j 0) y
  held_within zero j h l t y =
      rw (held_none B z)
      (cases (eqb z y) (λ e. let q = eqb-true z y e in rw (← q) (omega (arith, bit_pow z)))
      (λ e. omega (arith, bit_pow_other z y (eqb-false z y e))))
  held_within (suc i) j h l t y =
      cases (eqb (bit (get_or B i 0) z) 1)
      (λ e. let o = eqb-true (bit (get_or B i 0) z) 1 e in
      rw (held_in B z i o)
      (cases (eqb (bit (get_or B i 0) y) 1)
      (λ b. omega (arith, c.grows i j z y h l o t (eqb-true (bit (get_or B i 0) y) 1 b), eqb-true (bit (get_or B i 0) y) 1 b))
      (λ b. omega (arith, eqb-false (bit (get_or B i 0) y) 1 b, bit_lt (get_or B i 0) y))))
      (λ e. rw (held_out B z i (eqb-false (bit (get_or B i 0) z) 1 e)) (held_within i j (omega arith) l t y))

  module _ (L : ℕ) (d : ℕ → ℕ → ℕ) (i : ℕ) (h : i < m) (t : bit (get_or B i 0) z ≡ 1) where
    -- over a side of the chain: over the one before it, and what it adds
    pub near-more : near_on L d k z (get_or B i 0) ≡ min (near_on L d k z (held_at B z i)) (least_on k (bit (get_or B i 0 - held_at B z i)) 1 (4 * L) (ahead L d k z))
    unfolding near_on
    near-more = least_whole k (held_at B z i) (get_or B i 0) (4 * L) (held_fits i (omega arith)) (c.fits i h) (held_within i i (omega arith) h t) (ahead L d k z)

    -- beside the one before it: beside the side, and what it adds
    pub apart_more : apart_on L d k z (held_at B z i) ≡ min (apart_on L d k z (get_or B i 0)) (gap_on L d k z (get_or B i 0 - held_at B z i))
    unfolding apart_on gap_on
    apart_more =
        least_beside k (held_at B z i) (get_or B i 0) (4 * L) (held_fits i (omega arith)) (c.fits i h) (held_within i i (omega arith) h t) (ahead L d z k)
