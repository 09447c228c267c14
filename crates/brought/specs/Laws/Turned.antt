-- A division may be named by either side: what image k brings is the same. Assumes nothing.
use Rattle.std.proofs.Math.Path.{ap}
use Rattle.std.specs.Prelude.{refl, ◌≡◌, suc, zero, ℕ, ◌*◌, ◌+◌, ◌-◌, ◌<◌, ◌^◌, ◌≤◌, eqb, ltb}
use Rattle.std.proofs.Common.{◌∙◌, le_antisymm, arith, pow_pos, eqb-true, ltb-false, ltb-true}
use Rattle.std.proofs.lemmas.Bool.{eqb-false}
use borrow.Table.Steps.{cases}
use Rattle.ground.specs.Bits.{bit}
use Rattle.ground.specs.Laws.Bits.{bit-above, bit_full, bit_lt, bit_none, bit_same, bit-top}
use Rattle.ground.specs.Least.{On, least_on}
use Rattle.ground.specs.Laws.Least.{le_least_on, least_on_cap, least_on_le}
use Rattle.theory.specs.FarSides.{FarSide}
use Rattle.theory.specs.OneMore.{brought_fast, brought_near, brought_side}
use Rattle.upper_sides.specs.Laws.Parts.{bit_minus}

least_on_alike : (n : ℕ) (s t : ℕ → ℕ) (g h cap : ℕ) (f e : ℕ → ℕ) → ((a : ℕ) → On n s g a → On n t h a) → ((a : ℕ) → On n t h a → On n s g a)
    → ((a : ℕ) → a < n → f a ≡ e a)
    → least_on n s g cap f ≡ least_on n t h cap e
least_on_alike n s t g h cap f e up down same =
    le_antisymm
    (le_least_on t h cap e n (least_on n s g cap f) (least_on_cap s g cap f n) (λ a o. omega (arith, least_on_le s g cap f n a (down a o), same a o.0)))
    (le_least_on s g cap f n (least_on n t h cap e) (least_on_cap t h cap e n) (λ a o. omega (arith, least_on_le t h cap e n a (up a o), same a o.0)))

module _ (L : ℕ) (d : ℕ → ℕ → ℕ) (k : ℕ) (s t : ℕ → ℕ) (two : (a : ℕ) → a < suc k → s a < 2) (turned : (a : ℕ) → a < suc k → t a ≡ 1 - s a) where
  near-turned : (z : ℕ) → brought_near L d k s z ≡ brought_near L d k t z
  unfolding brought_near
  near-turned z =
      least_on_alike k s t (1 - s k) (1 - t k) (4 * L) _ _
      (λ a o. (o.0, omega (arith, o.1, turned a (omega arith), turned k (omega arith), two a (omega arith), two k (omega arith))))
      (λ a o. (o.0, omega (arith, o.1, turned a (omega arith), turned k (omega arith), two a (omega arith), two k (omega arith)))) (λ a h. refl)

  side-turned : (z : ℕ) → brought_side L d k s z ≡ brought_side L d k t z
  unfolding brought_side
  side-turned z =
      least_on_alike (suc k) s t (s k) (t k) (4 * L) _ _
      (λ a o. (o.0, omega (arith, o.1, turned a o.0, turned k (omega arith), two a o.0, two k (omega arith))))
      (λ a o. (o.0, omega (arith, o.1, turned a o.0, turned k (omega arith), two a o.0, two k (omega arith))))
      (λ a h. ap (λ x. x + (L + d a z - d k a)) (near-turned z))

  fast_turned : brought_fast L d k s ≡ brought_fast L d k t
  unfolding brought_fast
  fast_turned =
      least_on_alike k s t (1 - s k) (1 - t k) (4 * L) _ _
      (λ a o. (o.0, omega (arith, o.1, turned a (omega arith), turned k (omega arith), two a (omega arith), two k (omega arith))))
      (λ a o. (o.0, omega (arith, o.1, turned a (omega arith), turned k (omega arith), two a (omega arith), two k (omega arith)))) (λ a h. side-turned a)

-- what S does not hold of the first k images
pub bit-rest : (k S i : ℕ) → S < 2 ^ k → i < k → bit (2 ^ k - 1 - S) i ≡ 1 - bit S i
bit-rest k S i f h = bit_minus i k S (2 ^ k - 1) f (rest_within k S f) ∙ ap (λ x. x - bit S i) (bit_full k i h)
  where
    rest_within : (k S : ℕ) → S < 2 ^ k → (j : ℕ) → bit S j ≤ bit (2 ^ k - 1) j
    rest_within k S f j =
        cases (ltb j k) (λ t. omega (arith, bit_full k j (ltb-true j k t), bit_lt S j)) (λ t. omega (arith, bit-above S k j f (ltb-false j k t)))

pub rest_lt : (k S : ℕ) → 2 ^ k - 1 - S < 2 ^ k
rest_lt k S = omega (arith, pow_pos k)

-- image k with S, or apart from all the others
pub fast_rest : (L : ℕ) (d : ℕ → ℕ → ℕ) (k S : ℕ) → S < 2 ^ k → brought_fast L d k (bit (2 ^ k + S)) ≡ brought_fast L d k (bit (2 ^ k - 1 - S))
fast_rest L d k S f =
    fast_turned L d k (bit (2 ^ k + S)) (bit (2 ^ k - 1 - S)) (λ a h. bit_lt (2 ^ k + S) a)
    (λ a h. cases (eqb a k)
    (λ e. let q = eqb-true a k e in rw q (bit-above (2 ^ k - 1 - S) k k (rest_lt k S) (omega arith) ∙ omega (arith, bit-top S k f)))
    (λ e. let l : a < k = omega (arith, eqb-false a k e) in bit-rest k S a f l ∙ omega (arith, bit_same S k a l)))

-- what a far side does not hold is something
pub rest_some : (k S : ℕ) → FarSide k S → 0 < k → 0 < 2 ^ k - 1 - S
rest_some k S f h = go (2 ^ k - 1 - S) (bit-rest k S 0 f.fits h)
  where
    go : (m : ℕ) → bit m 0 ≡ 1 - bit S 0 → 0 < m
    go zero e = absurd (omega (arith, bit_none 0, f.near))
    go (suc m) e = omega arith
