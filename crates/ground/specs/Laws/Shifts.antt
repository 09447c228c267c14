-- Shifts of 64-bit numbers, as powers of 2. Assumes nothing.
use Rattle.std.specs.Prelude.{false, ◌≡◌, ℕ, ◌%◌, ◌*◌, ◌/◌, ◌<◌, ◌^◌, leb, ltb}
use Rattle.std.proofs.Common.{sym, ◌∙◌, le-div_iff_mul-le, mod-eq_of_lt, arith, pow_pos, leb-false, leb-true, lt-ltb}
use Rattle.std.proofs.Math.Nat.{div-eq_of_lt}
use Rattle.std.proofs.Math.Pow.{pow-lt}
use Rattle.std.proofs.lemmas.Bool.{lt-leb}
use borrow.Table.Steps.{cases}

-- bit i alone
pub shift_one : (i : ℕ) → i < 64 → 1 * 2 ^ i % 18446744073709551616 ≡ 2 ^ i
shift_one i h = let e : 1 * 2 ^ i ≡ 2 ^ i = omega arith in rw e (mod-eq_of_lt (pow-lt {i = i} {j = 64} h))

-- what is left after a shift by n is not zero exactly when the number has a bit from n on
pub beyond : (n s : ℕ) → ltb 0 (s / 2 ^ n) ≡ leb (2 ^ n) s
beyond n s =
    cases (leb (2 ^ n) s)
    (λ e. lt-ltb 0 (s / 2 ^ n) ((le-div_iff_mul-le (pow_pos n)).1 (omega (arith, leb-true (2 ^ n) s e))) ∙ sym e)
    (λ e. let z = div-eq_of_lt (leb-false (2 ^ n) s e) in rw (z, e))

-- a number of 64 bits has none from 64 on
pub all_within : (n s : ℕ) → n ≡ 64 → s < 2 ^ 64 → leb (2 ^ n) s ≡ false
all_within n s e h = rw e (lt-leb (2 ^ 64) s h)
