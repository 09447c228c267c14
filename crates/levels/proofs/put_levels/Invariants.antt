-- `levels::put_levels` meets its contract: the groups of a height below h are stored, and h is the next level, or is not below the entries
-- with images after k. Assumes nothing.
use Rattle.std.proofs.Common.{suc, ◌-◌}
use Rattle.theory.specs.Tables.{limit}
use Rattle.levels.proofs.Laws.Storing.{Putting}
use Rattle.levels.proofs.put_levels.Given as goal

abbrev pub invariant-loop-h : goal.invariant-loop-h
invariant-loop-h l = Putting l.t l.k l.at l.initial.members l.initial.heights l.members l.heights l.place l.h l.cap

abbrev pub decreases-loop-h : goal.decreases-loop-h
decreases-loop-h l = suc limit - l.h
