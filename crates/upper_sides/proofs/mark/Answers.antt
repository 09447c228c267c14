-- `upper_sides::mark` meets its contract: the images that are not left have their place. Assumes nothing.
use Rattle.std.proofs.Common.{arith, rules, ◌-◌, ◌<◌}
use Rattle.ground.specs.Laws.Bits.{bit_and_lem}
use Rattle.upper_sides.specs.Laws.Lowest.{without_fits}
use Rattle.upper_sides.specs.Laws.Uppers.{marked_more}
use Rattle.upper_sides.proofs.mark.Goals as goal

pub loop-rest-preserved : goal.loop-rest-preserved
loop-rest-preserved c =
    let some : 0 < c.loop-rest.rest = search rules in
    let i = c.loop-rest.invariant in
    let x = c.loop-rest.rest in (
      rw c.without_lowest-rest.ensures (without_fits 64 _ 0 some i.0 (omega arith)),
      λ z. rw c.without_lowest-rest.ensures (omega (arith, bit_and_lem z x (x - 1), i.1 z)),
      (marked_more _ _ _ _ _ some i.0 i.1 c.requires.1 c.lowest.ensures c.without_lowest-rest.ensures i.2),
    )
