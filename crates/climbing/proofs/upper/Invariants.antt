-- `climbing::upper` meets its contract: the first row from k on that contains row r is the first of all later ones. Assumes nothing.
use Rattle.std.proofs.Common.{drop, get_or, suc, ◌≡◌}
use Rattle.theory.specs.Routes.{upper_from, uppers}
use Rattle.climbing.proofs.upper.Given as goal

abbrev pub invariant-loop-k : goal.invariant-loop-k
invariant-loop-k l = (upper_from (suc l.k) (get_or l.fars l.r 0) (drop l.k l.fars) ≡ get_or (uppers l.fars) l.r 0)
