-- Bits of numbers and of bytes, most significant first. A bit is the number 0 or 1. Assumes nothing.
use Rattle.std.specs.Prelude.{List, [], ◌++◌, ◌∷◌, suc, zero, ℕ, ◌%◌, ◌*◌, ◌+◌, ◌/◌, ◌<◌, ◌^◌, ◌≤◌, drop, get_or, length, take}

-- the w low bits of x
unfoldable pub bits_of : ℕ → ℕ → List ℕ
bits_of zero x = []
bits_of (suc w) x = x / 2 ^ w % 2 ∷ bits_of w x

-- the number whose bits these are
unfoldable pub value_of : List ℕ → ℕ
value_of [] = 0
value_of (b ∷ l) = b * 2 ^ length l + value_of l

-- the bits of bytes, joined
unfoldable pub bits : List ℕ → List ℕ
bits [] = []
bits (b ∷ bs) = bits_of 8 b ++ bits bs

-- the w elements from the position on
unfoldable pub part : List ℕ → ℕ → ℕ → List ℕ
part l position w = take w (drop position l)

-- the number in the w bits of bytes from the position on
abbrev pub number_at : List ℕ → ℕ → ℕ → ℕ
number_at bs position w = value_of (part (bits bs) position w)

-- l, with those from the position on written over by m
unfoldable pub over_at : List ℕ → ℕ → List ℕ → List ℕ
over_at l position m = take position l ++ (m ++ drop (position + length m) l)

-- every element is a bit
pub data AllBits : List ℕ → Type 0 where
  none : AllBits []
  more : {b : ℕ} {l : List ℕ} → b < 2 → AllBits l → AllBits (b ∷ l)

-- every element is a byte
abbrev pub AllBytes : List ℕ → Type 0
AllBytes l = (i : ℕ) → get_or l i 0 < 256

-- a field of w bits at the position stands within n bytes, and its end is a number of 64 bits
pub record FieldWithin (n position w : ℕ) : Type 0 where
  pub width : w ≤ 64
  pub within : position + w ≤ 8 * n
  pub counted : position + w < 2 ^ 64

-- s bits are moved in one turn: some, none past the byte's end, and none past the field's
pub record Turn (offset left s : ℕ) : Type 0 where
  pub some : 0 < s
  pub in_byte : offset + s ≤ 8
  pub in_field : s ≤ left
