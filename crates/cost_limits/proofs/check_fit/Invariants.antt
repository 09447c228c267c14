-- `cost_limits::check_fit` meets its contract: what is left answers as the whole does. Assumes nothing.
use Rattle.std.proofs.Common.{◌+◌, ◌-◌, ◌≡◌}
use Rattle.ground.specs.Lowest.{check_all}
use Rattle.tables.specs.Entries.{costs_in}
use Rattle.cost_limits.specs.Checks.{large_check}
use Rattle.cost_limits.proofs.check_fit.Given as goal

abbrev pub invariant-loop-i : goal.invariant-loop-i
invariant-loop-i l = (check_all (λ i'. check_all (large_check l.most (costs_in l.t) i') (i' + 1) (l.t.n - (i' + 1))) 0 l.t.n ≡ check_all
    (λ i'. check_all (large_check l.most (costs_in l.t) i') (i' + 1) (l.t.n - (i' + 1))) l.i (l.t.n - l.i))
