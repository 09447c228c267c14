-- `link_writer::check_store` meets its contract: the first refusal is the answer. Assumes nothing.
use Rattle.std.proofs.Common.{arith, length}
use Rattle.ground.specs.Laws.First.{first_le}
use Rattle.link_writer.specs.Writing.{large}
use Rattle.link_writer.proofs.check_store.Goals as goal

pub overflow_add-row : goal.overflow_add-row
overflow_add-row c =
    let v = c.args.costs.now in
    omega (arith, c.first_large-row.ensures, c.requires.0.rows, c.requires.2, first_le (large c.args.form.limit v) (length v))
