-- `stored_costs::judge` meets its contract: the answer is a table where all checks passed. Assumes nothing.
use Rattle.std.proofs.Common.{arith, sym, ◌/◌, ◌∙◌}
use Rattle.ground.specs.Laws.Buffers.{rest_part}
use Rattle.cost_forms.specs.Laws.Sizes.{end_le}
use Rattle.cost_forms.specs.Sizes.{Small}
use Rattle.stored_costs.proofs.Laws.Passed.{read_at_passed}
use Rattle.stored_costs.proofs.judge.Goals as goal

pub overflow_add-result : goal.overflow_add-result
overflow_add-result c =
    let a = c.args in
    let there = read_at_passed a.form a.bytes.now a.position a.room (sym c.check_at.ensures ∙ c.in_ok-check_at.was) in
    let n = rw (rest_part a.bytes.now (a.position / 8)) at c.images-n.ensures in
    let small : Small a.form c.images-n.result = record { short = c.requires.0; narrow = c.requires.1; few = rw n there.2.few } in
    omega (arith, c.row_at.ensures, end_le a.form c.images-n.result small)
