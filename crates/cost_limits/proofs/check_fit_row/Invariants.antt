-- `cost_limits::check_fit_row` meets its contract: what is left answers as the whole does. Assumes nothing.
use Rattle.std.proofs.Common.{◌+◌, ◌-◌, ◌≡◌}
use Rattle.ground.specs.Lowest.{check_all}
use Rattle.tables.specs.Entries.{costs_in}
use Rattle.cost_limits.specs.Checks.{large_check}
use Rattle.cost_limits.proofs.check_fit_row.Given as goal

abbrev pub invariant-loop-j : goal.invariant-loop-j
invariant-loop-j l = (check_all (large_check l.most (costs_in l.t) l.i) (l.i + 1) (l.t.n - (l.i + 1)) ≡ check_all (large_check l.most (costs_in l.t) l.i) l.j (l.t.n - l.j))
