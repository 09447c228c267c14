-- `leveling::scan_last` meets its contract: what is left answers as the whole does. Assumes nothing.
use Rattle.std.proofs.Common.{◌-◌, ◌≡◌}
use Rattle.ground.specs.Lowest.{check_all}
use Rattle.tables.specs.Entries.{costs_in}
use Rattle.leveling.specs.Scan.{three_check, last_scan}
use Rattle.leveling.proofs.scan_last.Given as goal

abbrev pub invariant-loop-k : goal.invariant-loop-k
invariant-loop-k l = (last_scan (costs_in l.t) l.t.n l.i l.j ≡ check_all (three_check (costs_in l.t) l.i l.j) l.k (l.t.n - l.k))
