-- `wiring::scan_last` meets its contract: what is left answers as the whole does. Assumes nothing.
use Rattle.std.proofs.Common.{◌-◌, ◌≡◌}
use Rattle.ground.specs.Lowest.{check_all}
use Rattle.tables.specs.Entries.{costs_in}
use Rattle.wiring.specs.Scan.{four_check, last_scan}
use Rattle.wiring.proofs.scan_last.Given as goal

abbrev pub invariant-loop-l : goal.invariant-loop-l
invariant-loop-l l = (last_scan (costs_in l.t) l.t.n 0 l.j l.k ≡ check_all (four_check (costs_in l.t) 0 l.j l.k) l.l (l.t.n - l.l))
