-- `ground::side` meets its contract: the shift and the mask give the bit. Assumes nothing.
use Rattle.std.proofs.Common.{◌∙◌, ◌/◌, ◌^◌}
use lib.Bits.{and_mask}
use Rattle.ground.specs.Laws.Bits.{bit_shift}
use Rattle.ground.proofs.side.Goals as goal

pub returns : goal.returns
returns c = and_mask (c.args.s / 2 ^ c.args.i) 1 ∙ bit_shift c.args.s c.args.i
