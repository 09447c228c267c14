use Rattle.std.proofs.Common.{length, ◌≡◌}
use Rattle.report.specs.Laws.Run.{Running}
use Rattle.report.proofs.run.Given as goal

-- `report::run` meets its contract: what is left of the reading from here is the whole reading. Assumes nothing.
abbrev pub invariant-loop-k : goal.invariant-loop-k
invariant-loop-k l = (length l.t ≡ 4096) × Running l.bytes l.initial.fars l.initial.trees l.initial.sums l.k l.here l.fars l.trees l.sums
