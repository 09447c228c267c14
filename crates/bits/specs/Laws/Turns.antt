-- One turn of the loop of `get_by_turns`: some bits more, all within one byte. Assumes nothing.
use Rattle.std.specs.Prelude.{List, ◌≡◌, ℕ, ◌%◌, ◌*◌, ◌+◌, ◌-◌, ◌/◌, ◌<◌, ◌^◌, ◌≤◌, get_or, length}
use Rattle.std.proofs.Common.{ap, ap₂, subst, sym, ◌∙◌, lt_of_lt_of_le, mod-eq_of_lt, one-mul, arith, pow_mono}
use Rattle.std.proofs.Math.Pow.{pow-lt}
use Rattle.bits.specs.Bits.{FieldWithin, Turn, bits, bits_of, part, value_of}
use Rattle.bits.specs.Laws.Bytes.{length-bits, part_byte}
use Rattle.bits.specs.Laws.Numbers.{all_bits_bytes, all_bits_part, length-bits_of, value-append, value_lt, value_mod}
use Rattle.bits.specs.Laws.Parts.{length_part, part-more}

pub one_shl : (w : ℕ) → w < 64 → 1 * 2 ^ w % 2 ^ 64 ≡ 2 ^ w
one_shl w h = ap (λ (x : ℕ). x % 2 ^ 64) (one-mul (2 ^ w)) ∙ mod-eq_of_lt (pow-lt h)

pub value_part_lt : (bs : List ℕ) (position n m : ℕ) → position + n ≤ 8 * length bs → n ≤ m → value_of (part (bits bs) position n) < 2 ^ m
value_part_lt bs position n m h k =
    lt_of_lt_of_le
    (subst (λ (z : ℕ). value_of (part (bits bs) position n) < 2 ^ z) (length_part (bits bs) position n (rw length-bits h))
    (value_lt (all_bits_part position n (all_bits_bytes bs))))
    (pow_mono k)

module _ (position width n s : ℕ) (bs : List ℕ) (room : FieldWithin (length bs) position width) (st : Turn ((position + n) % 8) (width - n) s) where
  here : (position + n) / 8 < length bs
  here = omega arith

  pub get_turn : (acc : ℕ) → acc ≡ value_of (part (bits bs) position n)
      → acc * 2 ^ s + get_or bs ((position + n) / 8) 0 / 2 ^ (8 - (position + n) % 8 - s) % 2 ^ s ≡ value_of (part (bits bs) position (n + s))
  get_turn acc e =
      let j = 8 - (position + n) % 8 - s in
      let g : part (bits bs) (position + n) s ≡ bits_of s (get_or bs ((position + n) / 8) 0 / 2 ^ j) =
      part_byte bs (position + n) ((position + n) / 8) ((position + n) % 8) s j (omega arith) (omega arith) here in
      sym (ap value_of (part-more (bits bs) position n s)
      ∙ value-append (part (bits bs) position n) (part (bits bs) (position + n) s)
      ∙ ap₂ (λ (x y : ℕ). x * 2 ^ y + value_of (part (bits bs) (position + n) s)) (sym e) (ap length g ∙ length-bits_of s _)
      ∙ ap (λ (x : ℕ). acc * 2 ^ s + x) (ap value_of g ∙ value_mod s _))

  pub get_turn_lt : (acc : ℕ) → acc ≡ value_of (part (bits bs) position n)
      → acc * 2 ^ s + get_or bs ((position + n) / 8) 0 / 2 ^ (8 - (position + n) % 8 - s) % 2 ^ s < 2 ^ 64
  get_turn_lt acc e = rw (get_turn acc e) (value_part_lt bs position (n + s) 64 (omega arith) (omega arith))
