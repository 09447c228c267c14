-- `tables::check_diagonal` meets its contract: what is left answers as the whole does. Assumes nothing.
use Rattle.std.proofs.Common.{◌-◌, ◌≡◌, ◌≤◌}
use Rattle.ground.specs.Lowest.{check_all}
use Rattle.theory.specs.Tables.{cost}
use Rattle.tables.specs.Checks.{zero_check}
use Rattle.tables.proofs.check_diagonal.Given as goal

abbrev pub invariant-loop-i : goal.invariant-loop-i
invariant-loop-i l = (check_all (zero_check (cost l.t l.n)) 0 l.n ≡ check_all (zero_check (cost l.t l.n)) l.i (l.n - l.i))
