-- `upper_sides::mark` meets its contract: the images that are not left have their place. Assumes nothing.
use Rattle.std.proofs.Common.{ℕ, ◌<◌, ◌^◌, ◌≤◌}
use Rattle.ground.specs.Bits.{bit}
use Rattle.upper_sides.specs.Links.{PlacesMarked}
use Rattle.upper_sides.proofs.mark.Given as goal

abbrev pub invariant-loop-rest : goal.invariant-loop-rest
invariant-loop-rest l = (l.rest < 2 ^ 64) × ((z : ℕ) → bit l.rest z ≤ bit l.m z) × PlacesMarked l.m l.j l.rest l.initial.links l.links

abbrev pub decreases-loop-rest : goal.decreases-loop-rest
decreases-loop-rest l = l.rest
