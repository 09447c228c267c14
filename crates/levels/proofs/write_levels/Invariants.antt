-- `levels::write_levels` meets its contract: the groups whose last image is before k are written. Assumes nothing.
use Rattle.levels.proofs.Laws.Written.{Writing}
use Rattle.levels.proofs.write_levels.Given as goal

abbrev pub invariant-loop-k : goal.invariant-loop-k
invariant-loop-k l = Writing l.t l.k l.initial.members l.initial.heights l.members l.heights l.place
