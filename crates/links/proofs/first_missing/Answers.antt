-- `links::first_missing` meets its contract: no image below i lacks its own link. Assumes nothing.
use Rattle.std.proofs.Common.{arith, rules, sym, ◌∙◌}
use Rattle.ground.specs.Laws.First.{first_here, first_none}
use Rattle.links.proofs.first_missing.Goals as goal

pub returns-then-is_missing : goal.returns-then-is_missing
returns-then-is_missing c =
    first_here _ _ _ c.loop-i-test.true c.loop-i.invariant (sym c.is_missing.ensures ∙ c.if-is_missing.true)

pub returns : goal.returns
returns c = first_none _ _ _ (search rules) (search rules) (λ i h. c.loop-i.invariant i (omega arith))
