-- `index_more::turn_sides` meets its contract: image b is stored behind both, and counted on its own side. Assumes nothing.
use Rattle.std.proofs.Common.{arith}
use Rattle.ground.specs.Laws.Bits.{bit_lt}
use Rattle.index_more.specs.Laws.Sides.{split_turn}
use Rattle.index_more.proofs.turn_sides.Goals as goal

pub returns : goal.returns
returns c =
    let p = c.requires.4 in
    split_turn _ _ _ _ _ _ c.requires.1 (omega (arith, p.few)) (omega (arith, p.few)) p (bit_lt c.args.s c.args.b) c.side.ensures c.from.ensures
