-- `mending::mend` meets its contract: the first i rows are renamed and joined, and those from place i on stand where they stood, since no
-- more rows come out than went in. Assumes nothing.
use Rattle.mending.specs.Mending.{Joining}
use Rattle.mending.proofs.mend.Given as goal

abbrev pub invariant-loop-i : goal.invariant-loop-i
invariant-loop-i l = Joining l.m l.x l.initial.fars l.initial.costs l.i l.all l.fars l.costs
