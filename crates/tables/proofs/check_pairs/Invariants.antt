-- `tables::check_pairs` meets its contract: what is left answers as the whole does. Assumes nothing.
use Rattle.std.proofs.Common.{◌+◌, ◌-◌, ◌≡◌, ◌≤◌}
use Rattle.ground.specs.Lowest.{check_all}
use Rattle.theory.specs.Tables.{cost}
use Rattle.tables.specs.Checks.{pair_check}
use Rattle.tables.proofs.check_pairs.Given as goal

abbrev pub invariant-loop-i : goal.invariant-loop-i
invariant-loop-i l = (l.i ≤ l.n)
    × (check_all (λ i'. check_all (pair_check l.least (cost l.t l.n) i') (i' + 1) (l.n - (i' + 1))) 0 l.n ≡ check_all
    (λ i'. check_all (pair_check l.least (cost l.t l.n) i') (i' + 1) (l.n - (i' + 1))) l.i (l.n - l.i))
