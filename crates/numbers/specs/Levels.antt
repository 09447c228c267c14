-- The struct of numbers for the reading of levels. Assumes nothing.
use Rattle.std.specs.Prelude.{Ok, Err}
use Rattle.ground.specs.Refusals.{Written}
use Rattle.numbers.specs.Heads.{accepted, refused}
use Rattle.numbers.specs.declared.KemotuikiLevels.{KemotuikiLevels}

-- the groups written; where it is refused there are none
abbrev pub of_levels : Written → KemotuikiLevels
of_levels (Ok m) = record { head = accepted; groups = m }
of_levels (Err r) = record { head = refused 0 r; groups = 0 }
