-- `upper_sides::link` meets its contract: the sides below place i have gone by. Assumes nothing.
use Rattle.std.proofs.Common.{arith, ◌≡◌}
use Rattle.upper_sides.specs.Laws.Uppers.{linking_end, linking_none}
use Rattle.upper_sides.proofs.link.Goals as goal

pub loop-i-init : goal.loop-i-init
loop-i-init c = (linking_none _ _ _ c.requires.2)

pub returns : goal.returns
returns c =
    let e : c.loop-i.i ≡ c.args.count = omega arith in
    linking_end _ _ _ _ (rw e at c.loop-i.invariant)
