-- `tables::check_entries` meets its contract: what is left answers as the whole does. Assumes nothing.
use Rattle.std.proofs.Common.{◌-◌, ◌≡◌, ◌≤◌}
use Rattle.ground.specs.Lowest.{check_all}
use Rattle.theory.specs.Tables.{cost}
use Rattle.tables.specs.Checks.{entry_check}
use Rattle.tables.proofs.check_entries.Given as goal

abbrev pub invariant-loop-i : goal.invariant-loop-i
invariant-loop-i l = (check_all (λ i'. check_all (entry_check l.most (cost l.t l.n) i') 0 l.n) 0 l.n ≡ check_all (λ i'. check_all (entry_check l.most (cost l.t l.n) i') 0 l.n) l.i (l.n - l.i))
