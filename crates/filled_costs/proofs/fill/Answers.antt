-- `stored_costs::fill` meets its contract: one row more of the table stands at the front of the lent places. Assumes nothing.
use Rattle.std.proofs.Common.{arith, refl, rules, ◌∙◌}
use Rattle.cost_forms.specs.Said.{entry_of}
use Rattle.filled_costs.specs.Laws.Filling.{rows_above, rows_end, rows_more, rows_none}
use Rattle.filled_costs.proofs.fill.Goals as goal

pub loop-i-init : goal.loop-i-init
loop-i-init c = (refl, rows_none _ _ _)

pub returns : goal.returns
returns c = rows_end _ _ c.loop-i.i _ _ (search rules) (search rules) c.loop-i.invariant.1

pub fill_row-requires : goal.fill_row-requires
fill_row-requires c =
    let l = c.loop-i in
    let a = c.args in (
      c.requires.0,
      c.loop-i-test.true,
      omega (arith, c.requires.1, l.invariant.0),
      rows_above (entry_of a.form a.bytes.now) a.n l.i a.out.now l.out c.loop-i-test.true l.invariant.1,
    )

pub loop-i-preserved : goal.loop-i-preserved
loop-i-preserved c =
    let l = c.loop-i in
    let a = c.args in (
      c.fill_row.auto.out ∙ l.invariant.0,
      rows_more (entry_of a.form a.bytes.now) a.n l.i a.out.now l.out _ c.loop-i-test.true c.requires.1 l.invariant.1 c.fill_row.ensures,
    )
