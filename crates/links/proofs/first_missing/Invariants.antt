-- `links::first_missing` meets its contract: no image below i lacks its own link. Assumes nothing.
use Rattle.ground.specs.First.{NoneBelow}
use Rattle.bad_rows.specs.BadRows.{missing}
use Rattle.links.proofs.first_missing.Given as goal

abbrev pub invariant-loop-i : goal.invariant-loop-i
invariant-loop-i l = NoneBelow (missing l.n l.fars) l.i
