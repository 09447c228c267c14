-- `leveling::scan_first` meets its contract: what is left answers as the whole does. Assumes nothing.
use Rattle.std.proofs.Common.{◌-◌, ◌≡◌}
use Rattle.ground.specs.Lowest.{check_all}
use Rattle.tables.specs.Entries.{costs_in}
use Rattle.leveling.specs.Check.{levels_check}
use Rattle.leveling.specs.Scan.{second_scan}
use Rattle.leveling.proofs.scan_first.Given as goal

abbrev pub invariant-loop-i : goal.invariant-loop-i
invariant-loop-i l = (levels_check (costs_in l.t) l.t.n ≡ check_all (second_scan (costs_in l.t) l.t.n) l.i (l.t.n - l.i))
