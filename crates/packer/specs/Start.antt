-- How packing starts, and what every stored table starts with. Assumes nothing.
use Rattle.std.specs.Prelude.{List, ◌++◌, ℕ}
use Rattle.bits.specs.Bits.{bits_of}
use Rattle.bits.specs.declared.Form.{Form}
use Rattle.packer.specs.declared.Gathered.{Gathered}

-- before the first field
abbrev pub started : Gathered
started = record { at = 0; count = 0; bits = 0 }

-- the mark of the form, and n in 7 bits
abbrev pub start_bits : Form → ℕ → List ℕ
start_bits form n = bits_of form.head form.mark ++ bits_of 7 n
