-- Bits put one field after another: some are stored in whole bytes, the rest is gathered. Assumes nothing.
use Rattle.std.specs.Prelude.{List, ◌++◌, ◌≡◌, ℕ, ◌%◌, ◌*◌, ◌+◌, ◌-◌, ◌/◌, ◌<◌, ◌^◌, ◌≤◌, drop, length, take}
use Rattle.bits.specs.Bits.{bits, bits_of}
use Rattle.bits.specs.Forms.{bytes_for, fill_width}
use Rattle.packer.specs.declared.Gathered.{Gathered}

-- how many bits were put
abbrev pub put_count : Gathered → ℕ
put_count g = 8 * g.at + g.count

-- what was put: the bits of the bytes stored, then those gathered, the upper ones of 64
unfoldable pub put_bits : List ℕ → Gathered → List ℕ
put_bits out g = bits (take g.at out) ++ bits_of g.count (g.bits / 2 ^ (64 - g.count))

-- the bits below those gathered are 0
abbrev pub Clear : Gathered → Type 0
Clear g = g.bits % 2 ^ (64 - g.count) ≡ 0

-- what is gathered stands in one number, with 0 below, and has place in n bytes
pub record Gathers (n : ℕ) (g : Gathered) : Type 0 where
  pub most : g.count ≤ 64
  pub clear : Clear g
  pub within : put_count g ≤ 8 * n

-- less than a byte is gathered
pub record Part (g : Gathered) : Type 0 where
  pub few : g.count < 8
  pub clear : Clear g

-- so many bits more have place in n bytes
pub record Room (n : ℕ) (g : Gathered) (more : ℕ) : Type 0 where
  pub part : Part g
  pub within : put_count g + more ≤ 8 * n

-- what was put is the same, though more of it may be stored; bytes that are not stored yet are as they were
pub record Same (old new : List ℕ) (g r : Gathered) : Type 0 where
  pub forth : g.at ≤ r.at
  pub clear : Clear r
  pub counted : put_count r ≡ put_count g
  pub kept : put_bits new r ≡ put_bits old g
  pub others : drop r.at new ≡ drop r.at old

-- the bits l were put behind those before; less than a byte is gathered, and bytes that are not stored yet are as they were
pub record Put (l old new : List ℕ) (g r : Gathered) : Type 0 where
  pub part : Part r
  pub counted : put_count r ≡ put_count g + length l
  pub behind : put_bits new r ≡ put_bits old g ++ l
  pub others : drop r.at new ≡ drop r.at old

-- what was put is stored, filled with bits 0 to a whole byte; it takes so many bytes, and those behind are as they were
pub record Finished (old new : List ℕ) (g : Gathered) (used : ℕ) : Type 0 where
  pub counted : used ≡ bytes_for (put_count g)
  pub whole : bits (take used new) ≡ put_bits old g ++ bits_of (fill_width (put_count g)) 0
  pub others : drop used new ≡ drop used old
