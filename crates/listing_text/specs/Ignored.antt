-- The length of the longest stored cost table. No byte behind it can matter to a listing, as proofs/Ignored.antt shows. Assumes nothing.
use Rattle.std.specs.Prelude.{ℕ}

-- how many bytes the longest stored cost table has, which is one in the new form
abbrev pub longest_table : ℕ
longest_table = 5798
