-- `packer::drain` meets its contract: what was put is the same after each byte, and after four less than a byte is gathered. Assumes nothing.
use Rattle.std.proofs.Common.{arith, ◌≤◌}
use Rattle.packer.specs.Laws.Putting.{drained, same_then}
use Rattle.packer.proofs.drain.Goals as goal

pub returns : goal.returns
returns c =
    let a = c.byte_out-one.ensures in
    let b = c.byte_out-two.ensures in
    let d = c.byte_out-three.ensures in
    let e = c.byte_out.ensures in
    let m1 : c.byte_out-one.result.count ≤ 31 = omega (arith, a.1, c.requires.0) in
    let m2 : c.byte_out-two.result.count ≤ 23 = omega (arith, b.1, m1) in
    let m3 : c.byte_out-three.result.count ≤ 15 = omega (arith, d.1, m2) in
    drained (omega (arith, e.1, m3)) (same_then (same_then (same_then a.0 b.0) d.0) e.0)
