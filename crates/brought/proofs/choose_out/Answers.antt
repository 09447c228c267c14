-- `brought::choose_out` meets its contract: the rows below i have gone by. Assumes nothing.
use Rattle.std.proofs.Common.{arith}
use Rattle.brought.specs.Laws.Choosing.{outs_few, outs_more, outs_none}
use Rattle.brought.proofs.choose_out.Goals as goal

pub loop-i-init : goal.loop-i-init
loop-i-init c = outs_none _ _ _ _ _ _ _ c.requires.2

pub store-m-requires : goal.store-m-requires
store-m-requires c =
    let p = c.requires in
    let o = c.loop-i in (
      p.1.some o.i c.loop-i-test.true,
      outs_few _ _ _ _ _ _ _ _ _ _ p.1 c.loop-i-test.true o.invariant,
      omega (arith, c.loop-i-test.true, p.1.few),
      o.invariant.room,
    )

pub loop-i-preserved : goal.loop-i-preserved
loop-i-preserved c =
    outs_more _ _ _ _ _ _ _ _ _ _ c.requires.1 c.loop-i-test.true c.loop-i.invariant (rw c.goes_out.ensures at c.store-m.ensures)
