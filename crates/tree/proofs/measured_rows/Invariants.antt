-- `tree::measured_rows` meets its contract: the rows are the reading of the first k images. Assumes nothing.
use Rattle.std.proofs.Common.{length, ◌≡◌, ◌≤◌}
use Rattle.theory.specs.Tables.{limit}
use Rattle.tables.specs.Entries.{costs_in}
use Rattle.growing.specs.Held.{RowsHeld}
use Rattle.tree.proofs.measured_rows.Given as goal

abbrev pub invariant-loop-k : goal.invariant-loop-k
invariant-loop-k l = (1 ≤ l.k) × RowsHeld limit (costs_in l.t) l.k l.f l.v l.count × (length l.fars ≡ 128) × (length l.costs ≡ 128) × (length l.steps ≡ 384) × (length l.best ≡ 192)
