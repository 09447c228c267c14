-- `consensus::write_shared` meets its contract: the rows fit, since a link table has at most 2 n - 3. Assumes nothing.
use Rattle.std.proofs.Common.{arith}
use native.Mathlib.Nat.{le_trans}
use Rattle.theory.specs.Tables.{limit}
use Rattle.consensus.specs.Laws.Held.{held_written}
use Rattle.consensus.proofs.Laws.Taking.{left-rows, shares_room}
use Rattle.consensus.specs.Taking.{Shares}
use Rattle.consensus.proofs.write_shared.Goals as goal

pub write_rows-requires : goal.write_rows-requires
write_rows-requires c =
    let shares : Shares limit c.args.n c.args.tables.now c.args.number c.take_all.new.fars
    c.take_all.new.costs c.in_ok-count.count = c.take_all.ensures.accepted _ c.in_ok-count.was in
    let h = shares in
    let p = c.requires in
    let n = shares_room limit c.args.n c.args.tables.now _ _ _ c.args.number p.0.some p.0.one h in
    (omega (arith, h.held.few, h.held.far-room), omega (arith, h.held.few, h.held.cost-room), le_trans n p.1, le_trans n p.2)

pub returns : goal.returns
returns c =
    let shares : Shares limit c.args.n c.args.tables.now c.args.number c.take_all.new.fars
    c.take_all.new.costs c.in_ok-count.count = c.take_all.ensures.accepted _ c.in_ok-count.was in
    let a = c.args in
    let h = shares in
    left-rows limit a.n a.number a.tables.now a.fars.now a.costs.now c.requires.0 h
    (held_written h.held a.fars.now a.costs.now _ _ c.write_rows.ensures.0 c.write_rows.ensures.1)
