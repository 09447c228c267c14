-- The places of a chain: where the last side that holds z stands, and how many hold z before it. Assumes nothing.
use Rattle.std.specs.Prelude.{List, ◌≡◌, suc, zero, ℕ, ◌<◌, ◌≤◌, eqb, get_or}
use Rattle.std.proofs.Math.Path.{refl}
use Rattle.std.proofs.Common.{arith, eq-eqb, eqb-true, ne_eqb}
use Rattle.std.proofs.lemmas.Bool.{eqb-false}
use borrow.Table.Steps.{cases}
use Rattle.ground.specs.Bits.{bit}
use Rattle.upper_sides.specs.Chains.{depth_at, held_at, pick}
use Rattle.upper_sides.proofs.Laws.Chain.{depth_in, depth_none, depth_out, held_out}

-- the place of the last of the first i sides that hold z, counted from 1; 0 before any
unfoldable pub last_at : List ℕ → ℕ → ℕ → ℕ
last_at B z zero = zero
last_at B z (suc i) = pick (eqb (bit (get_or B i 0) z) 1) (suc i) (last_at B z i)

module _ (B : List ℕ) (z : ℕ) where
  pub last_in : (i : ℕ) → bit (get_or B i 0) z ≡ 1 → last_at B z (suc i) ≡ suc i
  unfolding last_at
  last_in i e = rw (eq-eqb (bit (get_or B i 0) z) 1 e)

  last_out : (i : ℕ) → (bit (get_or B i 0) z ≡ 1 → ⊥) → last_at B z (suc i) ≡ last_at B z i
  unfolding last_at
  last_out i e = rw (ne_eqb (bit (get_or B i 0) z) 1 e)

  last_none : last_at B z 0 ≡ 0
  unfolding last_at
  last_none = refl

  pub last_le : (i : ℕ) → last_at B z i ≤ i
  last_le zero = rw last_none (omega arith)
  last_le (suc i) =
      cases (eqb (bit (get_or B i 0) z) 1)
      (λ e. rw (last_in i (eqb-true (bit (get_or B i 0) z) 1 e)) (omega arith))
      (λ e. rw (last_out i (eqb-false (bit (get_or B i 0) z) 1 e)) (omega (arith, last_le i)))

  pub last_again : (i : ℕ) → last_at B z i ≡ last_at B z (last_at B z i)
  last_again zero = rw (last_none, last_none)
  last_again (suc i) =
      cases (eqb (bit (get_or B i 0) z) 1)
      (λ e. let t = last_in i (eqb-true (bit (get_or B i 0) z) 1 e) in rw (t, t))
      (λ e. rw (last_out i (eqb-false (bit (get_or B i 0) z) 1 e)) (last_again i))

  -- up to it nothing is held, and none is counted, that is not up to i
  pub held_last : (i : ℕ) → held_at B z i ≡ held_at B z (last_at B z i)
  held_last zero = rw last_none
  held_last (suc i) =
      cases (eqb (bit (get_or B i 0) z) 1)
      (λ e. rw (last_in i (eqb-true (bit (get_or B i 0) z) 1 e)))
      (λ e. let o = eqb-false (bit (get_or B i 0) z) 1 e in rw (last_out i o, held_out B z i o) (held_last i))

  pub depth_last : (i : ℕ) → depth_at B z i ≡ depth_at B z (last_at B z i)
  depth_last zero = rw last_none
  depth_last (suc i) =
      cases (eqb (bit (get_or B i 0) z) 1)
      (λ e. rw (last_in i (eqb-true (bit (get_or B i 0) z) 1 e)))
      (λ e. let o = eqb-false (bit (get_or B i 0) z) 1 e in rw (last_out i o, depth_out B z i o) (depth_last i))

  -- between the last one and i none holds z
  pub last_gap : (i j : ℕ) → last_at B z i ≤ j → j < i → bit (get_or B j 0) z ≡ 1 → ⊥
  last_gap zero j h l t = omega arith
  last_gap (suc i) j h l t =
      cases (eqb (bit (get_or B i 0) z) 1)
      (λ e. omega (arith, last_in i (eqb-true (bit (get_or B i 0) z) 1 e)))
      (λ e. let o = eqb-false (bit (get_or B i 0) z) 1 e in
      cases (eqb j i)
      (λ q. o (rw (eqb-true j i q) at t))
      (λ q. last_gap i j (omega (arith, last_out i o)) (omega (arith, eqb-false j i q)) t))

  -- the last one is one of them
  pub last_holds : (i : ℕ) → suc i ≡ last_at B z (suc i) → bit (get_or B i 0) z ≡ 1
  last_holds i h =
      cases (eqb (bit (get_or B i 0) z) 1) (λ e. eqb-true (bit (get_or B i 0) z) 1 e)
      (λ e. absurd (omega (arith, last_out i (eqb-false (bit (get_or B i 0) z) 1 e), last_le i)))

  pub depth_le : (i : ℕ) → depth_at B z i ≤ i
  depth_le zero = omega (arith, depth_none B z)
  depth_le (suc i) =
      cases (eqb (bit (get_or B i 0) z) 1)
      (λ e. omega (arith, depth_in B z i (eqb-true (bit (get_or B i 0) z) 1 e), depth_le i))
      (λ e. omega (arith, depth_out B z i (eqb-false (bit (get_or B i 0) z) 1 e), depth_le i))

  -- a side that holds z counts for those behind it
  pub depth_lt : (j i : ℕ) → j < i → bit (get_or B j 0) z ≡ 1 → depth_at B z j < depth_at B z i
  depth_lt j zero h t = absurd (omega arith)
  depth_lt j (suc i) h t =
      cases (eqb j i)
      (λ q. let e = eqb-true j i q in rw e (omega (arith, depth_in B z i (rw e at t))))
      (λ q. let l = depth_lt j i (omega (arith, eqb-false j i q)) t in
      cases (eqb (bit (get_or B i 0) z) 1)
      (λ e. omega (arith, depth_in B z i (eqb-true (bit (get_or B i 0) z) 1 e)))
      (λ e. omega (arith, depth_out B z i (eqb-false (bit (get_or B i 0) z) 1 e))))
