-- The bit of an image taken out of a far side: which bits are left, and that nothing wraps. Assumes nothing.
use Rattle.std.proofs.Common.{ap, sym, ◌∙◌, div-add-mod', div-le_self, div-one, mul-le-mul_right, mul_left_comm, arith, shr-shr}
use Rattle.std.specs.Prelude.{refl, ◌≡◌, suc, zero, ℕ, ◌%◌, ◌*◌, ◌+◌, ◌/◌, ◌<◌, ◌^◌, ◌≤◌}
use Rattle.std.proofs.Math.Nat.{mod-one, pow-succ'}
use Rattle.ground.specs.Bits.{bit}
use Rattle.mending.specs.Laws.OldNumbers.{had-above, had-below, had-suc}
use Rattle.mending.specs.Leaving.{had, take_out}

pub bit-take_out : (x S i : ℕ) → bit (take_out x S) i ≡ bit S (had x i)
bit-take_out zero S i = ap (bit S) (sym (had-above 0 i (omega arith)))
bit-take_out (suc x) S zero = rw (had-below (suc x) 0 (omega arith)) (omega arith)
bit-take_out (suc x) S (suc i) =
    let e : (S % 2 + 2 * take_out x (S / 2)) / 2 ≡ take_out x (S / 2) = omega arith in
    rw (e, had-suc x i) (bit-take_out x (S / 2) i)

pub take_out_lt : (m x S : ℕ) → x < suc m → S < 2 ^ suc m → take_out x S < 2 ^ m
take_out_lt m zero S h l = omega arith
take_out_lt zero (suc x) S h l = absurd (omega arith)
take_out_lt (suc m) (suc x) S h l = omega (arith, take_out_lt m x (S / 2) (omega arith) (omega arith))

-- in one step: what is below the bit, and what is above it moved down
pub take_out_is : (x S : ℕ) → take_out x S ≡ S % 2 ^ x + S / 2 ^ x / 2 * 2 ^ x
take_out_is zero S = omega (arith, mod-one S, div-one S)
take_out_is (suc x) S =
    let e : S / 2 ^ suc x ≡ S / 2 / 2 ^ x = (let z : suc x ≡ 1 + x = omega arith in rw (z, ← (shr-shr S 1 x)) refl) in
    let whole = div-add-mod' S (2 ^ suc x) in
    let half = div-add-mod' (S / 2) (2 ^ x) in
    rw e (omega (arith, take_out_is x (S / 2), half, rw e at whole, double (S / 2 / 2 ^ x) x, double (S / 2 / 2 ^ x / 2) x))
  where
    double : (a x : ℕ) → a * 2 ^ suc x ≡ 2 * (a * 2 ^ x)
    double a x = ap (λ (z : ℕ). a * z) (pow-succ' 2 x) ∙ mul_left_comm a 2 (2 ^ x)

-- neither that nor its second part is more than it was
pub cut_le : (x S : ℕ) → (S / 2 ^ x / 2 * 2 ^ x ≤ S) × (S % 2 ^ x + S / 2 ^ x / 2 * 2 ^ x ≤ S)
cut_le x S =
    let a = div-add-mod' S (2 ^ x) in
    let b = mul-le-mul_right (2 ^ x) (div-le_self (S / 2 ^ x) 2) in
    (omega arith, omega arith)
