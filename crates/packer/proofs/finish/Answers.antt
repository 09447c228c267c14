-- `packer::finish` meets its contract: with the fill bits put, nothing is gathered any more. Assumes nothing.
use Rattle.std.proofs.Common.{arith}
use Rattle.bits.specs.Laws.Numbers.{length-bits_of}
use Rattle.packer.proofs.Laws.Finished.{fill_put}
use Rattle.packer.proofs.finish.Goals as goal

pub returns : goal.returns
returns c =
    let p = c.put-whole.ensures in
    let counted = rw length-bits_of at p.counted in
    fill_put (omega arith) (omega (arith, p.part.few, counted)) (omega (arith, p.part.few, counted)) p
