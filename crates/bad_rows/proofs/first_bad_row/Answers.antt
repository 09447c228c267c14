-- `bad_rows::first_bad_row` meets its contract: no row below k is bad. Assumes nothing.
use Rattle.std.proofs.Common.{arith, rules, sym, ◌∙◌}
use Rattle.ground.specs.Laws.First.{first_here, first_none}
use Rattle.bad_rows.proofs.first_bad_row.Goals as goal

pub returns-then-is_bad_row : goal.returns-then-is_bad_row
returns-then-is_bad_row c =
    first_here _ _ _ c.loop-k-test.true c.loop-k.invariant (sym c.is_bad_row.ensures ∙ c.if-is_bad_row.true)

pub returns : goal.returns
returns c = first_none _ _ _ (search rules) (search rules) (λ i h. c.loop-k.invariant i (omega arith))
