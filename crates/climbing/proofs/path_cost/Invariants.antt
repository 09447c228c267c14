-- `climbing::path_cost` meets its contract: the sum so far and the path cost of the rest are the whole. Assumes nothing.
use Rattle.std.proofs.Common.{drop, length, ◌+◌, ◌≡◌}
use Rattle.theory.specs.LinkTables.{path, rows_of}
use Rattle.climbing.proofs.path_cost.Given as goal

abbrev pub invariant-loop-s : goal.invariant-loop-s
invariant-loop-s l = l.sum + path (rows_of (drop (length l.yielded) l.fars) (drop (length l.yielded) l.costs)) l.i l.j ≡ path (rows_of l.fars l.costs) l.i l.j
