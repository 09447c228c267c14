-- Tests joined by and, or, not, exactly one. Assumes nothing.
use Rattle.std.specs.Prelude.{Bool, false, not, true}

-- exactly one of the two
abbrev pub one_of : Bool → Bool → Bool
one_of true b = not b
one_of false b = b
