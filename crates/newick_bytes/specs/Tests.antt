-- A test that decides what was read. Assumes nothing.
use Rattle.std.specs.Prelude.{Bool, false, true}
use Rattle.newick_bytes.specs.declared.Seen.{Seen}

abbrev pub pick : Bool → Seen → Seen → Seen
pick true a b = a
pick false a b = b
