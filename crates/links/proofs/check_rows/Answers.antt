-- `links::check_rows` meets its contract: it stops at the first refusal, as the chain does. Assumes nothing.
use Rattle.std.proofs.Common.{arith, length}
use Rattle.ground.specs.Laws.First.{first_le}
use Rattle.bad_rows.specs.BadRows.{bad_row, missing}
use Rattle.links.proofs.check_rows.Goals as goal

pub overflow_add-row : goal.overflow_add-row
overflow_add-row c =
    let a = c.args in
    omega (arith, c.first_bad_row-row.ensures, first_le (bad_row a.most a.n a.fars.now a.costs.now) (length a.fars.now))

pub overflow_add-image : goal.overflow_add-image
overflow_add-image c =
    let a = c.args in
    omega (arith, c.first_missing-image.ensures, first_le (missing a.n a.fars.now) a.n)
