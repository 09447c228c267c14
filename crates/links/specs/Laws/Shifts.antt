-- Shifts in the code, as powers of 2. Assumes nothing.
use Rattle.std.proofs.Common.{ap, arith, pow_mono, pow_pos}
use Rattle.std.specs.Prelude.{refl, ◌≡◌, suc, zero, ℕ, ◌*◌, ◌-◌, ◌<◌, ◌^◌, ◌≤◌}
use Rattle.theory.specs.FarSides.{own}

-- all images but 0, as the code makes it: nothing is shifted by 64
pub full_side : (n : ℕ) → 3 ≤ n → n ≤ 64 → (2 ^ (n - 1) - 1) * 2 ≡ own n 0
full_side n h l = let e : n ≡ suc (n - 1) = omega arith in omega (arith, ap (λ (x : ℕ). 2 ^ x) e, pow_pos (n - 1))

pub full_fits : (n : ℕ) → n ≤ 64 → own n 0 < 18446744073709551616
full_fits n l = omega (arith, pow_mono {i = n} {j = 64} l)

pub one_side : (n i : ℕ) → (i ≡ 0 → ⊥) → 2 ^ i ≡ own n i
one_side n zero h = absurd (h refl)
one_side n (suc i) h = refl
