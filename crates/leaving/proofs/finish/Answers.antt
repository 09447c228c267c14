-- `leaving::finish` meets its contract: the replay ends with no more rows than there is room for. Assumes nothing.
use Rattle.std.proofs.Common.{arith}
use native.Mathlib.Nat.{le_trans}
use Rattle.leaving.specs.Laws.Outcome.{stands_few, stands_left}
use Rattle.leaving.proofs.finish.Goals as goal

pub write_rows-requires : goal.write_rows-requires
write_rows-requires c =
    let p = c.requires in
    let k = c.run-r.ensures.kept in
    let few = stands_few _ _ _ _ _ _ p.0.sound c.run-r.ensures in
    (omega (arith, k.few, k.far-room), omega (arith, k.few, k.cost-room), le_trans few p.1, le_trans few p.2)

pub returns : goal.returns
returns c = stands_left _ _ _ _ _ _ _ _ c.run-r.ensures c.write_rows.ensures.0 c.write_rows.ensures.1
