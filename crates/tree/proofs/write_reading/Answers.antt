-- `tree::write_reading` meets its contract: the rows fit, since a reading has at most 2 n - 3. Assumes nothing.
use Rattle.std.proofs.Common.{arith}
use native.Mathlib.Nat.{le_trans}
use Rattle.theory.specs.Tables.{limit}
use Rattle.tree.proofs.Laws.Writing.{held_count, rows_written}
use Rattle.tree.proofs.write_reading.Goals as goal

pub write_rows-requires : goal.write_rows-requires
write_rows-requires c =
    let h = c.measured_rows-count.ensures in
    let p = c.requires in
    let t = c.args.t.now.formed in
    let n = held_count limit _ _ _ _ _ t.some t.formed h in
    (omega (arith, h.few, h.far-room), omega (arith, h.few, h.cost-room), le_trans n p.0, le_trans n p.1)

pub returns : goal.returns
returns c = rows_written limit _ _ _ _ _ _ _ _ _ c.measured_rows-count.ensures c.write_rows.ensures.0 c.write_rows.ensures.1
