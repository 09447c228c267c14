-- The bits of a number and the value of bits: each undoes the other, and a width may be cut in two. Assumes nothing.
use Rattle.std.specs.Prelude.{List, [], ◌++◌, ◌∷◌, refl, ◌≡◌, suc, zero, ℕ, ◌%◌, ◌*◌, ◌+◌, ◌/◌, ◌<◌, ◌^◌, drop, length, take}
use Rattle.std.proofs.Common.{ap, ap₂, subst, sym, ◌∙◌, add_assoc, add_comm, add-mul, mod-eq_of_lt, mod-lt, mul_assoc, mul_comm, pow-suc, suc-add, zero-add, zero-mul, arith, length-append, pow-add, pow_pos, shr-shr}
use Rattle.std.proofs.Math.Nat.{add-mul-div_right, mod-one, mul-add-mod_self_right}
use Rattle.std.proofs.Math.Arith.{digits_lt}
use Rattle.std.proofs.Math.Pow.{high, split}
use Rattle.std.proofs.lemmas.Nat.{mod-pow-add}
use Rattle.bits.specs.Bits.{AllBits, bits, bits_of, more, none, part, value_of}

pub length-bits_of : (w x : ℕ) → length (bits_of w x) ≡ w
unfolding bits_of
length-bits_of zero x = refl
length-bits_of (suc w) x = ap suc (length-bits_of w x)

-- what stands above the w low bits plays no part
pub bits_of_low : (w a c : ℕ) → bits_of w (a * 2 ^ w + c) ≡ bits_of w c
unfolding bits_of
bits_of_low zero a c = refl
bits_of_low (suc w) a c =
    let e : a * 2 ^ suc w + c ≡ a * 2 * 2 ^ w + c =
    ap (λ (x : ℕ). x + c) (ap (λ (x : ℕ). a * x) (pow-suc 2 w ∙ mul_comm (2 ^ w) 2) ∙ sym (mul_assoc a 2 (2 ^ w))) in
    rw e (ap₂ {C = List ℕ} (λ (x : ℕ) (l : List ℕ). x ∷ l)
    (ap (λ (x : ℕ). x % 2)
    (ap (λ (x : ℕ). x / 2 ^ w) (add_comm (a * 2 * 2 ^ w) c) ∙ add-mul-div_right c (a * 2) (pow_pos w) ∙ add_comm (c / 2 ^ w) (a * 2))
    ∙ mul-add-mod_self_right a 2 (c / 2 ^ w))
    (bits_of_low w (a * 2) c))

-- a field is its upper bits, then its lower bits
pub bits_of-add : (i j x : ℕ) → bits_of (i + j) x ≡ bits_of i (x / 2 ^ j) ++ bits_of j x
unfolding bits_of
bits_of-add zero j x = ap (λ (k : ℕ). bits_of k x) (zero-add j)
bits_of-add (suc i) j x =
    ap (λ (k : ℕ). bits_of k x) (suc-add i j)
    ∙ ap₂ {C = List ℕ} (λ (y : ℕ) (l : List ℕ). y ∷ l)
    (ap (λ (y : ℕ). y % 2) (ap (λ (k : ℕ). x / 2 ^ k) (add_comm i j) ∙ sym (shr-shr x j i)))
    (bits_of-add i j x)

pub bits_of_mod : (w x : ℕ) → bits_of w (x % 2 ^ w) ≡ bits_of w x
bits_of_mod w x = sym (bits_of_low w (x / 2 ^ w) (x % 2 ^ w)) ∙ ap (bits_of w) (split x w)

-- two fields side by side are one
pub bits_of-join : (i j a c : ℕ) → c < 2 ^ j → bits_of (i + j) (a * 2 ^ j + c) ≡ bits_of i a ++ bits_of j c
bits_of-join i j a c h =
    bits_of-add i j (a * 2 ^ j + c)
    ∙ ap₂ (λ (x : ℕ) (l : List ℕ). bits_of i x ++ l) (high a j h) (bits_of_low j a c)

pub value_mod : (w x : ℕ) → value_of (bits_of w x) ≡ x % 2 ^ w
unfolding bits_of value_of
value_mod zero x = sym (mod-one x)
value_mod (suc w) x =
    ap₂ (λ (k v : ℕ). x / 2 ^ w % 2 * 2 ^ k + v) (length-bits_of w x) (value_mod w x)
    ∙ sym (mod-pow-add x 1 w) ∙ ap (λ (k : ℕ). x % 2 ^ k) (suc-add 0 w ∙ ap suc (zero-add w))

pub value-bits : (w x : ℕ) → x < 2 ^ w → value_of (bits_of w x) ≡ x
value-bits w x h = value_mod w x ∙ mod-eq_of_lt h

pub value-append : (l m : List ℕ) → value_of (l ++ m) ≡ value_of l * 2 ^ length m + value_of m
unfolding value_of
value-append [] m = sym (ap (λ (x : ℕ). x + value_of m) (zero-mul (2 ^ length m)) ∙ zero-add (value_of m))
value-append (b ∷ l) m =
    ap₂ (λ (k v : ℕ). b * 2 ^ k + v) (length-append l m) (value-append l m)
    ∙ ap (λ (x : ℕ). b * x + (value_of l * 2 ^ length m + value_of m)) (pow-add 2 (length l) (length m))
    ∙ sym (ap (λ (x : ℕ). x + value_of m) (add-mul (b * 2 ^ length l) (value_of l) (2 ^ length m)
    ∙ ap (λ (x : ℕ). x + value_of l * 2 ^ length m) (mul_assoc b (2 ^ length l) (2 ^ length m)))
    ∙ add_assoc (b * (2 ^ length l * 2 ^ length m)) (value_of l * 2 ^ length m) (value_of m))

pub value_lt : {l : List ℕ} → AllBits l → value_of l < 2 ^ length l
unfolding value_of
value_lt none = pow_pos 0
value_lt (more {b = b} {l = l} h r) =
    subst (λ (x : ℕ). b * 2 ^ length l + value_of l < x) (mul_comm 2 (2 ^ length l) ∙ sym (pow-suc 2 (length l)))
    (digits_lt h (value_lt r))

pub bits-value : {l : List ℕ} → AllBits l → bits_of (length l) (value_of l) ≡ l
unfolding bits_of value_of
bits-value none = refl
bits-value (more {b = b} {l = l} h r) =
    ap₂ {C = List ℕ} (λ (x : ℕ) (t : List ℕ). x ∷ t)
    (ap (λ (x : ℕ). x % 2) (high b (length l) (value_lt r)) ∙ mod-eq_of_lt h)
    (bits_of_low (length l) b (value_of l) ∙ bits-value r)

pub all_bits_append : {l m : List ℕ} → AllBits l → AllBits m → AllBits (l ++ m)
all_bits_append none h = h
all_bits_append (more b r) h = more b (all_bits_append r h)

pub all_bits_of : (w x : ℕ) → AllBits (bits_of w x)
unfolding bits_of
all_bits_of zero x = none
all_bits_of (suc w) x = more (mod-lt (x / 2 ^ w) (omega arith)) (all_bits_of w x)

pub all_bits_bytes : (bs : List ℕ) → AllBits (bits bs)
unfolding bits
all_bits_bytes [] = none
all_bits_bytes (b ∷ bs) = all_bits_append (all_bits_of 8 b) (all_bits_bytes bs)

pub all_bits_take : (n : ℕ) {l : List ℕ} → AllBits l → AllBits (take n l)
all_bits_take zero h = none
all_bits_take (suc n) none = none
all_bits_take (suc n) (more b r) = more b (all_bits_take n r)

pub all_bits_drop : (n : ℕ) {l : List ℕ} → AllBits l → AllBits (drop n l)
all_bits_drop zero h = h
all_bits_drop (suc n) none = none
all_bits_drop (suc n) (more b r) = all_bits_drop n r

pub all_bits_part : (position w : ℕ) {l : List ℕ} → AllBits l → AllBits (part l position w)
unfolding part
all_bits_part position w h = all_bits_take w (all_bits_drop position h)
