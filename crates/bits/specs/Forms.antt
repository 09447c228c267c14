-- Lists of fields, as which tables are stored: their bits, and their bytes, which are those bits filled with bits 0 to a whole byte. Assumes nothing.
use Rattle.std.specs.Prelude.{List, [], map, ◌++◌, ◌∷◌, suc, zero, ℕ, ◌*◌, ◌+◌, ◌-◌, ◌/◌, ◌<◌, ◌^◌, drop, length, take}
use Rattle.bits.specs.Bits.{bits_of, part, value_of}

-- a value stored in so many bits
pub record Field : Type 0 where
  pub width : ℕ
  pub value : ℕ

-- the field of w bits with the value v
abbrev pub field : ℕ → ℕ → Field
field w v = record { width = w; value = v }

-- one field for each value, all of one width
abbrev pub fields_of : ℕ → List ℕ → List Field
fields_of w vs = map (field w) vs

-- the fields' bits, one field after another
unfoldable pub field_bits : List Field → List ℕ
field_bits [] = []
field_bits (f ∷ fs) = bits_of f.width f.value ++ field_bits fs

-- whole bytes for b bits
abbrev pub bytes_for : ℕ → ℕ
bytes_for b = (b + 7) / 8

-- how many fill bits follow b bits
abbrev pub fill_width : ℕ → ℕ
fill_width b = 8 * bytes_for b - b

-- filled with bits 0 to a whole byte: one field more, of value 0
unfoldable pub filled : List ℕ → List ℕ
filled l = l ++ bits_of (fill_width (length l)) 0

-- n bytes, each from eight bits of l
unfoldable pub bytes_of : ℕ → List ℕ → List ℕ
bytes_of zero l = []
bytes_of (suc n) l = value_of (take 8 l) ∷ bytes_of n (drop 8 l)

-- the whole bytes of the bits l
unfoldable pub packed : List ℕ → List ℕ
packed l = bytes_of (bytes_for (length l)) (filled l)

-- the fields' bytes
unfoldable pub field_bytes : List Field → List ℕ
field_bytes fs = packed (field_bits fs)

-- the value in field k of those of width w that begin at the position
unfoldable pub field_value : List ℕ → ℕ → ℕ → ℕ → ℕ
field_value l position w k = value_of (part l (position + w * k) w)

-- every value fits its width
pub data AllFit : List Field → Type 0 where
  nothing : AllFit []
  also : {f : Field} {fs : List Field} → f.value < 2 ^ f.width → AllFit fs → AllFit (f ∷ fs)
