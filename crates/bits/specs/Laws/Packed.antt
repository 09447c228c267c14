-- Bits filled with bits 0 to a whole byte, as bytes. Assumes nothing.
use mathlib.Core.List.{List, [], append_assoc, ◌++◌, ◌∷◌}
use Rattle.std.proofs.Math.Path.{ap}
use Rattle.std.proofs.Common.{ap₂, subst, sym, ◌∙◌, arith, length-drop, take-append-drop, length-take-le}
use Rattle.std.specs.Prelude.{refl, ◌≡◌, suc, zero, ℕ, ◌*◌, ◌<◌, ◌^◌, drop, length, take}
use Rattle.std.proofs.Math.ListN.{length-append}
use Rattle.bits.specs.Bits.{AllBits, AllBytes, bits, bits_of, value_of}
use Rattle.bits.specs.Forms.{bytes_for, bytes_of, fill_width, filled, packed}
use Rattle.bits.specs.Laws.Bytes.{bits-append, bits_inj}
use Rattle.bits.specs.Laws.Numbers.{all_bits_append, all_bits_drop, all_bits_of, all_bits_take, bits-value, length-bits_of, value_lt}

pub length-bytes_of : (n : ℕ) (l : List ℕ) → length (bytes_of n l) ≡ n
unfolding bytes_of
length-bytes_of zero l = refl
length-bytes_of (suc n) l = ap suc (length-bytes_of n (drop 8 l))

pub bits-bytes_of : (n : ℕ) (l : List ℕ) → AllBits l → length l ≡ 8 * n → bits (bytes_of n l) ≡ l
unfolding bytes_of bits
bits-bytes_of zero [] b h = refl
bits-bytes_of zero (x ∷ l) b h = absurd (omega arith)
bits-bytes_of (suc n) l b h =
    let e : length (take 8 l) ≡ 8 = length-take-le 8 l (omega arith) in
    ap₂ (λ (x y : List ℕ). x ++ y)
    (ap (λ (k : ℕ). bits_of k (value_of (take 8 l))) (sym e) ∙ bits-value (all_bits_take 8 b))
    (bits-bytes_of n (drop 8 l) (all_bits_drop 8 b) (omega (arith, length-drop 8 l)))
    ∙ take-append-drop 8 l

pub all_bytes_of : (n : ℕ) (l : List ℕ) → AllBits l → length l ≡ 8 * n → AllBytes (bytes_of n l)
unfolding bytes_of
all_bytes_of zero l b h i = omega arith
all_bytes_of (suc n) l b h zero = subst (λ (k : ℕ). value_of (take 8 l) < 2 ^ k) (length-take-le 8 l (omega arith)) (value_lt (all_bits_take 8 b))
all_bytes_of (suc n) l b h (suc i) = all_bytes_of n (drop 8 l) (all_bits_drop 8 b) (omega (arith, length-drop 8 l)) i

-- ## Filled to a whole byte

module _ (l : List ℕ) where
  pub length-filled : length (filled l) ≡ 8 * bytes_for (length l)
  unfolding filled
  length-filled = omega (arith, length-append l (bits_of (fill_width (length l)) 0), length-bits_of (fill_width (length l)) 0)

  -- the exact count of bytes
  pub length-packed : length (packed l) ≡ bytes_for (length l)
  unfolding packed
  length-packed = length-bytes_of (bytes_for (length l)) (filled l)

  module _ (b : AllBits l) where
    all_bits_filled : AllBits (filled l)
    unfolding filled
    all_bits_filled = all_bits_append b (all_bits_of (fill_width (length l)) 0)

    pub bits-packed : bits (packed l) ≡ filled l
    unfolding packed
    bits-packed = bits-bytes_of (bytes_for (length l)) (filled l) all_bits_filled length-filled

    pub all_bytes_packed : AllBytes (packed l)
    unfolding packed
    all_bytes_packed = all_bytes_of (bytes_for (length l)) (filled l) all_bits_filled length-filled

    -- the bytes are determined
    pub packed_only : (bs : List ℕ) → AllBytes bs → bits bs ≡ filled l → bs ≡ packed l
    packed_only bs h e = bits_inj bs (packed l) h all_bytes_packed (e ∙ sym bits-packed)

    -- more bytes may follow
    pub bits_packed_then : (m : List ℕ) → bits (packed l ++ m) ≡ l ++ (bits_of (fill_width (length l)) 0 ++ bits m)
    unfolding filled
    bits_packed_then m = bits-append (packed l) m ∙ ap (λ (x : List ℕ). x ++ bits m) bits-packed ∙ append_assoc l (bits_of (fill_width (length l)) 0) (bits m)
