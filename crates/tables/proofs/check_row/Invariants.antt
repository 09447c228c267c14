-- `tables::check_row` meets its contract: what is left answers as the whole does. Assumes nothing.
use Rattle.std.proofs.Common.{◌-◌, ◌≡◌, ◌≤◌}
use Rattle.ground.specs.Lowest.{check_all}
use Rattle.theory.specs.Tables.{cost}
use Rattle.tables.specs.Checks.{entry_check}
use Rattle.tables.proofs.check_row.Given as goal

abbrev pub invariant-loop-j : goal.invariant-loop-j
invariant-loop-j l = (check_all (entry_check l.most (cost l.t l.n) l.i) 0 l.n ≡ check_all (entry_check l.most (cost l.t l.n) l.i) l.j (l.n - l.j))
