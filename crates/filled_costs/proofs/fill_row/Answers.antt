-- `stored_costs::fill_row` meets its contract: its three parts are the whole row. Assumes nothing.
use Rattle.std.proofs.Common.{arith, length, length-set, ◌*◌, ◌+◌, ◌≤◌}
use Rattle.bits.specs.Bits.{bits}
use Rattle.bits.specs.Forms.{field_value}
use Rattle.cost_forms.specs.Said.{entry_of}
use Rattle.filled_costs.specs.Laws.Filling.{row_field, row-filled, row_inside}
use Rattle.cost_forms.specs.Laws.Sizes.{row_span, square_le}
use Rattle.filled_costs.proofs.fill_row.Goals as goal

pub fill_right-requires : goal.fill_right-requires
fill_right-requires c =
    let inside : (c.args.i * c.args.n + c.args.n ≤ length c.args.out.now) × (c.args.i * c.args.n + c.args.n ≤ 4096) = let r = row_inside c.args.n c.args.i c.requires.1 in
    (omega (arith, r, c.requires.2), omega (arith, r, square_le c.requires.0.small.few)) in
    let a = c.args in (
      rw c.row_at-p.ensures (row_span a.form a.n a.i (length a.bytes.now) c.requires.0 c.requires.1),
      omega (arith, c.requires.1, inside.1),
      simp length-set (omega (arith, c.requires.1, inside.0, c.fill_left.auto.out)),
    )

pub returns : goal.returns
returns c =
    let inside : (c.args.i * c.args.n + c.args.n ≤ length c.args.out.now) × (c.args.i * c.args.n + c.args.n ≤ 4096) = let r = row_inside c.args.n c.args.i c.requires.1 in
    (omega (arith, r, c.requires.2), omega (arith, r, square_le c.requires.0.small.few)) in
    let a = c.args in
    row-filled (entry_of a.form a.bytes.now) a.n a.i (field_value (bits a.bytes.now) c.row_at-p.result a.form.width) a.out.now
    c.fill_left.new.out _
    c.requires.1 inside.0 c.fill_left.auto.out c.requires.3 c.fill_left.ensures
    (λ k. rw c.row_at-p.ensures (row_field a.form a.n a.i k a.bytes.now))
    c.fill_right.ensures
