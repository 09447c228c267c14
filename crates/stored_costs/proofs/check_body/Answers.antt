-- `stored_costs::check_body` meets its contract: the fill bits are read once all bytes are there. Assumes nothing.
use Rattle.std.proofs.Common.{arith, length, ltb, ltb-false, sym, ◌+◌, ◌/◌, ◌∙◌, ◌≤◌}
use Rattle.ground.specs.Laws.Refusals.{refuse_if-passed, then_goes}
use Rattle.cost_forms.specs.Said.{fill_of}
use Rattle.cost_forms.specs.Laws.Sizes.{end_le}
use Rattle.cost_forms.specs.Sizes.{last_entry_end}
use Rattle.stored_costs.proofs.check_body.Goals as goal

pub overflow_add-used : goal.overflow_add-used
overflow_add-used c = omega (arith, c.row_at-end.ensures, end_le c.args.form c.args.n c.requires)

pub overflow_mul-used : goal.overflow_mul-used
overflow_mul-used c = omega (arith, c.row_at-end.ensures, end_le c.args.form c.args.n c.requires)

pub get-requires : goal.get-requires
get-requires c =
    let small : c.row_at-end.result ≤ last_entry_end = rw c.row_at-end.ensures (end_le c.args.form c.args.n c.requires) in
    let whole : (c.row_at-end.result + 7) / 8 ≤ length c.args.bytes.now = ltb-false _ _ (refuse_if-passed (ltb (length c.args.bytes.now) ((c.row_at-end.result + 7) / 8)) _
    (sym c.refuse_if.ensures ∙ c.in_ok-refuse_if.was)) in
    record { width = omega arith; within = omega arith; counted = omega arith }

pub returns : goal.returns
unfolding fill_of
returns c = rw (← c.row_at-end.ensures, ← c.get.ensures) (then_goes _ _ c.in_ok-refuse_if.was c.refuse_if.ensures c.refuse_if-2.ensures)
