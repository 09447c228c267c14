-- The number in whole bytes, and a field as a piece of such a number. Assumes nothing.
use Rattle.std.specs.Prelude.{List, ◌≡◌, ℕ, ◌%◌, ◌*◌, ◌+◌, ◌/◌, ◌<◌, ◌^◌, ◌≤◌, drop, get_or, length, take}
use Rattle.std.proofs.Common.{ap, sym, ◌∙◌, div-one, arith, length-take-le}
use Rattle.bits.specs.Bits.{bits, bits_of, number_at, part, value_of}
use Rattle.bits.specs.Laws.Bytes.{length-bits, part-bits_of, part_byte}
use Rattle.bits.specs.Laws.Numbers.{all_bits_bytes, all_bits_part, bits-value, value-append, value-bits, value_mod}
use Rattle.bits.specs.Laws.Parts.{length_part, part-around, part-inside, part-more}

-- the number in i + j bits is that in the first i with that in the next j behind it
pub number_more : (bs : List ℕ) (p i j : ℕ) → p + i + j ≤ 8 * length bs → number_at bs p (i + j) ≡ number_at bs p i * 2 ^ j + number_at bs (p + i) j
number_more bs p i j h =
    let l = bits bs in
    ap value_of (part-more l p i j)
    ∙ value-append (part l p i) (part l (p + i) j)
    ∙ ap (λ (k : ℕ). number_at bs p i * 2 ^ k + number_at bs (p + i) j) (length_part l (p + i) j (rw length-bits h))

-- and so for i bytes and the next j
pub number_bytes_more : (bs : List ℕ) (q i j : ℕ) → q + i + j ≤ length bs
    → number_at bs (8 * q) (8 * i + 8 * j) ≡ number_at bs (8 * q) (8 * i) * 2 ^ (8 * j) + number_at bs (8 * (q + i)) (8 * j)
number_bytes_more bs q i j h =
    let e : 8 * q + 8 * i ≡ 8 * (q + i) = omega arith in
    number_more bs (8 * q) (8 * i) (8 * j) (omega arith)
    ∙ ap (λ (p : ℕ). number_at bs (8 * q) (8 * i) * 2 ^ (8 * j) + number_at bs p (8 * j)) e

-- a byte is the number in its own bits
pub number_byte : (bs : List ℕ) (q : ℕ) → q < length bs → get_or bs q 0 < 256 → number_at bs (8 * q) 8 ≡ get_or bs q 0
number_byte bs q h b =
    ap value_of (part_byte bs (8 * q) q 0 8 0 (omega arith) (omega arith) h)
    ∙ ap (λ (x : ℕ). value_of (bits_of 8 x)) (div-one (get_or bs q 0))
    ∙ value-bits 8 (get_or bs q 0) b

-- the number in w bits is a piece of that in n bits around them, o before and j behind
pub number-inside : (bs : List ℕ) (p n o w j : ℕ) → o + (w + j) ≡ n → p + n ≤ 8 * length bs
    → number_at bs p n / 2 ^ j % 2 ^ w ≡ number_at bs (p + o) w
number-inside bs p n o w j e h =
    let l = bits bs in
    let m = part l p n in
    let k : p + n ≤ length l = rw length-bits h in
    let whole : bits_of n (value_of m) ≡ m =
    ap (λ (i : ℕ). bits_of i (value_of m)) (sym (length_part l p n k)) ∙ bits-value (all_bits_part p n (all_bits_bytes bs)) in
    let inside : part l (p + o) w ≡ part m o w =
    ap (λ (x : List ℕ). part x (p + o) w) (part-around l p n)
    ∙ part-inside (take p l) m (drop (p + n) l) (p + o) o w (omega (arith, length-take-le p l (omega arith))) (omega (arith, length_part l p n k)) in
    sym (ap value_of (inside ∙ ap (λ (x : List ℕ). part x o w) (sym whole) ∙ part-bits_of n (value_of m) o w j e) ∙ value_mod w (value_of m / 2 ^ j))
