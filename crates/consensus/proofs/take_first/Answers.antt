-- `consensus::take_first` meets its contract: the first tree is held, or its table is refused with number 1. Assumes nothing.
use Rattle.theory.specs.Tables.{limit}
use Rattle.tree.specs.Exact.{Wired}
use Rattle.consensus.specs.Laws.Joined.{no_table}
use Rattle.consensus.proofs.Laws.Taking.{shares_first, taken_refused, taken-rows}
use Rattle.consensus.proofs.take_first.Goals as goal

pub returns-in-Err : goal.returns-in-Err
returns-in-Err c =
    let p = c.requires in
    rw c.in_table.ensures
    (taken_refused limit c.args.n c.args.number c.args.tables.now _ _ p.0 0 1 c.in-Err.r
    p.0.one (no_table c.args.n c.args.tables.now (Wired limit c.args.n))
    (c.read_table.ensures.refused _ c.in-Err.is))

pub returns-in-Ok : goal.returns-in-Ok
returns-in-Ok c =
    let p = c.requires in
    let h = c.read_table.ensures.accepted _ c.in-Ok.is in
    taken-rows limit c.args.n c.args.number c.args.tables.now _ _ p.0 1 _
    (shares_first limit c.args.n c.args.tables.now _ _ _ h.0 h.1)
