-- `links::place_of` meets its contract: the place in the rows from k on is the place in all. Assumes nothing.
use Rattle.std.proofs.Common.{drop, suc, ◌≡◌}
use Rattle.ground.specs.Members.{place_of}
use Rattle.links.proofs.place_of.Given as goal

abbrev pub invariant-loop-k : goal.invariant-loop-k
invariant-loop-k l = (place_of (suc l.k) l.s (drop l.k l.fars) ≡ place_of 1 l.s l.fars)
