-- `leveling::scan_second` meets its contract: what is left answers as the whole does. Assumes nothing.
use Rattle.std.proofs.Common.{◌-◌, ◌≡◌}
use Rattle.ground.specs.Lowest.{check_all}
use Rattle.tables.specs.Entries.{costs_in}
use Rattle.leveling.specs.Scan.{last_scan, second_scan}
use Rattle.leveling.proofs.scan_second.Given as goal

abbrev pub invariant-loop-j : goal.invariant-loop-j
invariant-loop-j l = (second_scan (costs_in l.t) l.t.n l.i ≡ check_all (last_scan (costs_in l.t) l.t.n l.i) l.j (l.t.n - l.j))
