-- Laws of the bits of a number. Assumes nothing.
use Rattle.std.proofs.Common.{ap, arith, pow_pos, shr-shr, eqb-true}
use Rattle.std.specs.Prelude.{refl, ◌≡◌, max, min, suc, zero, ℕ, ◌%◌, ◌*◌, ◌+◌, ◌-◌, ◌/◌, ◌<◌, ◌^◌, ◌≤◌, eqb}
use Rattle.std.specs.Int.Bits.{and_step, bit_and, bit_or, or_step}
use Rattle.std.proofs.lemmas.Bool.{eqb-false}
use borrow.Table.Steps.{cases}
use Rattle.ground.specs.Bits.{bit, num}

pub bit_lt : (x i : ℕ) → bit x i < 2
bit_lt x zero = omega arith
bit_lt x (suc i) = bit_lt (x / 2) i

-- the code's form, by a shift
pub bit_shift : (x i : ℕ) → x / 2 ^ i % 2 ≡ bit x i
bit_shift x zero = omega arith
bit_shift x (suc i) = let e : suc i ≡ 1 + i = omega arith in rw (e, ← (shr-shr x 1 i)) (bit_shift (x / 2) i)

pub bit_none : (i : ℕ) → bit 0 i ≡ 0
bit_none zero = refl
bit_none (suc i) = bit_none i

pub bit-above : (x k i : ℕ) → x < 2 ^ k → k ≤ i → bit x i ≡ 0
bit-above x zero i h l = let e : x ≡ 0 = omega arith in rw e (bit_none i)
bit-above x (suc k) zero h l = absurd (omega arith)
bit-above x (suc k) (suc i) h l = bit-above (x / 2) k i (omega arith) (omega arith)

pub bit_same : (x k i : ℕ) → i < k → bit (2 ^ k + x) i ≡ bit x i
bit_same x zero i h = absurd (omega arith)
bit_same x (suc k) zero h = omega arith
bit_same x (suc k) (suc i) h = let e : (2 ^ suc k + x) / 2 ≡ 2 ^ k + x / 2 = omega arith in rw e (bit_same (x / 2) k i (omega arith))

pub bit-top : (x k : ℕ) → x < 2 ^ k → bit (2 ^ k + x) k ≡ 1
bit-top x zero h = omega arith
bit-top x (suc k) h = let e : (2 ^ suc k + x) / 2 ≡ 2 ^ k + x / 2 = omega arith in rw e (bit-top (x / 2) k (omega arith))

-- one bit more
pub bit-add : (z x : ℕ) → bit x z ≡ 0 → bit (2 ^ z + x) z ≡ 1
bit-add zero x h = omega arith
bit-add (suc z) x h = let e : (2 ^ suc z + x) / 2 ≡ 2 ^ z + x / 2 = omega arith in rw e (bit-add z (x / 2) h)

pub bit_add_other : (z x i : ℕ) → bit x z ≡ 0 → (i ≡ z → ⊥) → bit (2 ^ z + x) i ≡ bit x i
bit_add_other zero x zero h ne = absurd (ne refl)
bit_add_other zero x (suc i) h ne = let e : (2 ^ 0 + x) / 2 ≡ x / 2 = omega arith in rw e
bit_add_other (suc z) x zero h ne = omega arith
bit_add_other (suc z) x (suc i) h ne =
    let e : (2 ^ suc z + x) / 2 ≡ 2 ^ z + x / 2 = omega arith in
    rw e (bit_add_other z (x / 2) i h (λ q. ne (ap suc q)))

pub bit_add_fits : (n z x : ℕ) → z < n → x < 2 ^ n → bit x z ≡ 0 → 2 ^ z + x < 2 ^ n
bit_add_fits zero z x l h b = absurd (omega arith)
bit_add_fits (suc n) zero x l h b = omega arith
bit_add_fits (suc n) (suc z) x l h b = omega (arith, bit_add_fits n z (x / 2) (omega arith) (omega arith) b)

pub bit_ext : (k x y : ℕ) → x < 2 ^ k → y < 2 ^ k → ((i : ℕ) → i < k → bit x i ≡ bit y i) → x ≡ y
bit_ext zero x y p q h = omega arith
bit_ext (suc k) x y p q h =
    omega (arith, h 0 (omega arith), bit_ext k (x / 2) (y / 2) (omega arith) (omega arith) (λ i l. h (suc i) (omega arith)))

pub num_lt : (k : ℕ) (f : ℕ → ℕ) → ((m : ℕ) → f m < 2) → num k f < 2 ^ k
num_lt zero f h = omega arith
num_lt (suc k) f h = omega (arith, h 0, num_lt k (λ m. f (suc m)) (λ m. h (suc m)))

pub num-bit : (k : ℕ) (f : ℕ → ℕ) → ((m : ℕ) → f m < 2) → (m : ℕ) → m < k → bit (num k f) m ≡ f m
num-bit zero f h m l = absurd (omega arith)
num-bit (suc k) f h zero l = omega (arith, h 0)
num-bit (suc k) f h (suc m) l =
    let e : (f 0 + 2 * num k (λ m. f (suc m))) / 2 ≡ num k (λ m. f (suc m)) = omega (arith, h 0) in
    rw e (num-bit k (λ m. f (suc m)) (λ m. h (suc m)) m (omega arith))

pub bit-some : (k x : ℕ) → 0 < x → x < 2 ^ k → (i : ℕ) × (i < k) × (bit x i ≡ 1)
bit-some zero x p q = absurd (omega arith)
bit-some (suc k) x p q =
    cases (eqb (x % 2) 1) (λ e. (0, omega arith, eqb-true (x % 2) 1 e))
    (λ e. let r = bit-some k (x / 2) (omega (arith, eqb-false)) (omega arith) in (suc r.0, omega arith, r.2))

-- one bit alone
pub bit_pow : (i : ℕ) → bit (2 ^ i) i ≡ 1
bit_pow zero = refl
bit_pow (suc i) = let e : 2 ^ suc i / 2 ≡ 2 ^ i = omega arith in rw e (bit_pow i)

pub bit_pow_other : (i j : ℕ) → (i ≡ j → ⊥) → bit (2 ^ i) j ≡ 0
bit_pow_other zero zero h = absurd (h refl)
bit_pow_other zero (suc j) h = bit_none j
bit_pow_other (suc i) zero h = omega arith
bit_pow_other (suc i) (suc j) h = let e : 2 ^ suc i / 2 ≡ 2 ^ i = omega arith in rw e (bit_pow_other i j (λ e. h (ap suc e)))

-- all bits
pub bit_full : (k i : ℕ) → i < k → bit (2 ^ k - 1) i ≡ 1
bit_full zero i h = absurd (omega arith)
bit_full (suc k) zero h = omega (arith, pow_pos k)
bit_full (suc k) (suc i) h = let e : (2 ^ suc k - 1) / 2 ≡ 2 ^ k - 1 = omega (arith, pow_pos k) in rw e (bit_full k i (omega arith))

-- the test x & y takes the bits one by one
pub bit_and_lem : (i x y : ℕ) → bit (bit_and x y) i ≡ min (bit x i) (bit y i)
bit_and_lem zero x y = omega (arith, and_step x y)
bit_and_lem (suc i) x y =
    let e : bit_and x y / 2 ≡ bit_and (x / 2) (y / 2) = omega (arith, and_step x y) in rw e (bit_and_lem i (x / 2) (y / 2))

-- and x | y
pub bit_or_lem : (i x y : ℕ) → bit (bit_or x y) i ≡ max (bit x i) (bit y i)
bit_or_lem zero x y = omega (arith, or_step x y)
bit_or_lem (suc i) x y =
    let e : bit_or x y / 2 ≡ bit_or (x / 2) (y / 2) = omega (arith, or_step x y) in rw e (bit_or_lem i (x / 2) (y / 2))
