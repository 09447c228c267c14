-- `bad_rows::first_crossed` meets its contract: no row below j crosses row k. Assumes nothing.
use Rattle.std.proofs.Common.{arith, rules, sym, ◌∙◌}
use Rattle.ground.specs.Laws.First.{first_here, first_none}
use Rattle.bad_rows.proofs.first_crossed.Goals as goal

pub returns-then-is_crossing : goal.returns-then-is_crossing
returns-then-is_crossing c =
    first_here _ _ _ c.loop-j-test.true c.loop-j.invariant (sym c.is_crossing.ensures ∙ c.if-is_crossing.true)

pub returns : goal.returns
returns c = first_none _ _ _ (search rules) (search rules) (λ i h. c.loop-j.invariant i (omega arith))
