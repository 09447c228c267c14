-- The other images of a set: an image is in them exactly when it is not in the set, and what a link has on its sides. Assumes nothing.
use Rattle.std.specs.Prelude.{false, not, true, ◌≡◌, suc, zero, ℕ, ◌+◌, ◌-◌, ◌/◌, ◌<◌, ◌^◌}
use Rattle.std.proofs.Common.{ap, arith, pow_pos}
use Rattle.std.specs.Int.Count.{ones, ones_step}
use borrow.Table.Steps.{cases}
use Rattle.ground.specs.Bits.{bit}
use Rattle.ground.specs.Laws.Ones.{ones_none}
use Rattle.theory.specs.FarSides.{FarSide, holds, own}
use Rattle.theory.specs.Index.{AtLeast}
use Rattle.theory.specs.Laws.Nested.{bit-holds, bit_holds_not, holds_false, holds_true}
use Rattle.theory.specs.Tables.{WellFormed}
use Rattle.levels.specs.Sides.{link_of, rest}

pub rest_fits : (n S : ℕ) → rest n S < 2 ^ n
rest_fits n S = omega (arith, pow_pos n)

pub rest-rest : (n S : ℕ) → S < 2 ^ n → rest n (rest n S) ≡ S
rest-rest n S f = omega arith

pub rest-bit : (n S i : ℕ) → S < 2 ^ n → i < n → bit (rest n S) i + bit S i ≡ 1
rest-bit zero S i f h = absurd (omega arith)
rest-bit (suc n) S zero f h = omega arith
rest-bit (suc n) S (suc i) f h =
    let e : (2 ^ suc n - 1 - S) / 2 ≡ 2 ^ n - 1 - S / 2 = omega arith in rw e (rest-bit n (S / 2) i (omega arith) (omega arith))

-- all images together are as many as there are
pub rest_ones : (n S : ℕ) → S < 2 ^ n → ones (rest n S) + ones S ≡ n
rest_ones zero S f = let e : S ≡ 0 = omega arith in rw e (omega (arith, ones_none))
rest_ones (suc n) S f =
    let e : (2 ^ suc n - 1 - S) / 2 ≡ 2 ^ n - 1 - S / 2 = omega arith in
    omega (arith, ones_step (2 ^ suc n - 1 - S), ap ones e, ones_step S, rest_ones n (S / 2) (omega arith))

module _ (n S : ℕ) (f : S < 2 ^ n) where
  pub in_rest : (i : ℕ) → i < n → holds S i ≡ false → holds (rest n S) i ≡ true
  in_rest i h e = bit-holds (rest n S) i (omega (arith, rest-bit n S i f h, holds_false S i e))

  pub not_in_rest : (i : ℕ) → i < n → holds S i ≡ true → holds (rest n S) i ≡ false
  not_in_rest i h e = bit_holds_not (rest n S) i (omega (arith, rest-bit n S i f h, holds_true S i e))

  pub rest_in : (i : ℕ) → i < n → holds (rest n S) i ≡ true → holds S i ≡ false
  rest_in i h e = bit_holds_not S i (omega (arith, rest-bit n S i f h, holds_true (rest n S) i e))

  pub rest_not_in : (i : ℕ) → i < n → holds (rest n S) i ≡ false → holds S i ≡ true
  rest_not_in i h e = bit-holds S i (omega (arith, rest-bit n S i f h, holds_false (rest n S) i e))

  pub holds-rest : (i : ℕ) → i < n → holds (rest n S) i ≡ not (holds S i)
  holds-rest i h = cases (holds S i) (λ e. rw e (not_in_rest i h e)) (λ e. rw e (in_rest i h e))

  -- the sides may be exchanged
  pub at_least_rest : (L : ℕ) (d : ℕ → ℕ → ℕ) (v : ℕ) → WellFormed L d n → AtLeast d n (bit S) v → AtLeast d n (bit (rest n S)) v
  at_least_rest L d v c p = record {
    low = λ {a} {a'} {b} {b'} ha ha' hb hb'.
        omega (
          arith,
          p.low {a = b} {a' = b'} {b = a} {b' = a'}
              (hb.0, omega (arith, rest-bit n S b f hb.0, hb.1)) (hb'.0, omega (arith, rest-bit n S b' f hb'.0, hb'.1))
              (ha.0, omega (arith, rest-bit n S a f ha.0, ha.1)) (ha'.0, omega (arith, rest-bit n S a' f ha'.0, ha'.1)),
          c.same ha.0 hb.0,
          c.same ha'.0 hb'.0,
        );
  }

  -- a set that is not empty and has not all images is one side of a division
  pub link_far : 0 < n → 0 < S → (S ≡ 2 ^ n - 1 → ⊥) → FarSide n (link_of n S)
  link_far h s ne =
      cases (holds S 0)
      (λ e. rw e (record { some = omega (arith, ne); fits = rest_fits n S; near = holds_false (rest n S) 0 (not_in_rest 0 h e) }))
      (λ e. rw e (record { some = s; fits = f; near = holds_false S 0 e }))

  pub at_least_link : (L : ℕ) (d : ℕ → ℕ → ℕ) (v : ℕ) → WellFormed L d n → AtLeast d n (bit S) v → AtLeast d n (bit (link_of n S)) v
  at_least_link L d v c p = cases (holds S 0) (λ e. rw e (at_least_rest L d v c p)) (λ e. rw e p)

-- one image and the others: its own link
pub link_own : (n i : ℕ) → i < n → link_of n (2 ^ i) ≡ own n i
link_own n zero h = omega arith
link_own n (suc i) h = rw (bit_holds_not (2 ^ suc i) 0 (omega arith))
