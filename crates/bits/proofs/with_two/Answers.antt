-- `bits::with_two` meets its contract: two bytes put behind the number are the number of their sixteen bits. Assumes nothing.
use Rattle.std.proofs.Common.{arith, ◌+◌}
use Rattle.bits.specs.Laws.Words.{number_byte, number_bytes_more}
use Rattle.bits.proofs.with_two.Goals as goal

pub returns : goal.returns
returns c =
    let a = c.args in
    let fits = c.shared_slice_known-3-1.given in
    omega (
      arith,
      number_bytes_more a.bytes.now a.q 1 1 (omega arith),
      number_byte a.bytes.now a.q (omega arith)
          (fits a.q).fits,
      number_byte a.bytes.now (a.q + 1) (omega arith) (fits (a.q + 1)).fits,
    )
