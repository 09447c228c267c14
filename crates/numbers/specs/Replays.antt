-- The struct of numbers for the answer of a replay: where an event was refused, it has the images and rows of the table before it. Assumes nothing.
use Rattle.std.specs.Prelude.{Ok, Err}
use Rattle.ground.specs.Refusals.{Check}
use Rattle.leaving.specs.declared.Replayed.{Replayed}
use Rattle.numbers.specs.Heads.{accepted, refused}
use Rattle.numbers.specs.declared.KemotuikiHead.{KemotuikiHead}
use Rattle.numbers.specs.declared.KemotuikiReplay.{KemotuikiReplay}

-- the head of a check
abbrev pub of_check : Check → KemotuikiHead
of_check (Ok tt) = accepted
of_check (Err r) = refused 0 r

-- the images left, the rows written, the refused event, and its refusal in the head
abbrev pub of_replayed : Replayed → KemotuikiReplay
of_replayed x = record { head = of_check x.stop; images = x.images; rows = x.rows; event = x.event }
