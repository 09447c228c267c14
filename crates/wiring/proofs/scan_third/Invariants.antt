-- `wiring::scan_third` meets its contract: what is left answers as the whole does. Assumes nothing.
use Rattle.std.proofs.Common.{◌-◌, ◌≡◌}
use Rattle.ground.specs.Lowest.{check_all}
use Rattle.tables.specs.Entries.{costs_in}
use Rattle.wiring.specs.Scan.{last_scan, third_scan}
use Rattle.wiring.proofs.scan_third.Given as goal

abbrev pub invariant-loop-k : goal.invariant-loop-k
invariant-loop-k l = (third_scan (costs_in l.t) l.t.n 0 l.j ≡ check_all (last_scan (costs_in l.t) l.t.n 0 l.j) l.k (l.t.n - l.k))
