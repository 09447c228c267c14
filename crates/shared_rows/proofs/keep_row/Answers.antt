-- `shared_rows::keep_row` meets its contract: the row is stored no further than it was read. Assumes nothing.
use Rattle.std.proofs.Common.{ap, arith, refl, set, ℕ, ◌+◌, ◌≤◌}
use Rattle.shared_rows.specs.Laws.Turns.{same_le}
use Rattle.shared_rows.proofs.keep_row.Goals as goal

pub overflow_add-result : goal.overflow_add-result
overflow_add-result c =
    let q : c.one_same.result ≤ 1 = rw c.one_same.ensures (same_le _ _) in omega (arith, q)
