-- `wiring::check_wiring` meets its contract: what is left answers as the whole does. Assumes nothing.
use Rattle.std.proofs.Common.{◌-◌, ◌≡◌}
use Rattle.ground.specs.Lowest.{check_all}
use Rattle.tables.specs.Entries.{costs_in}
use Rattle.wiring.specs.Scan.{second_scan, third_scan}
use Rattle.wiring.proofs.check_wiring.Given as goal

abbrev pub invariant-loop-j : goal.invariant-loop-j
invariant-loop-j l = (second_scan (costs_in l.t) l.t.n 0 ≡ check_all (third_scan (costs_in l.t) l.t.n 0) l.j (l.t.n - l.j))
