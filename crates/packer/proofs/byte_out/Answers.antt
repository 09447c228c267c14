-- `packer::byte_out` meets its contract: what was put is the same, whether the upper byte goes out or not. Assumes nothing.
use Rattle.std.proofs.Common.{arith}
use Rattle.packer.specs.Laws.Putting.{same_byte}
use Rattle.packer.proofs.byte_out.Goals as goal

pub returns : goal.returns
returns c = (same_byte c.args.out.now _ c.args.g c.requires (omega arith) c.store.ensures, omega arith)
