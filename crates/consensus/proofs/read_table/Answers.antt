-- `consensus::read_table` meets its contract: the table is a part of the slice, and `graft::exact` promises the rest. Assumes nothing.
use Rattle.theory.specs.Tables.{limit}
use Rattle.consensus.specs.Laws.Held.{tree_read}
use Rattle.consensus.specs.Laws.Joined.{part_is, part_sized}
use Rattle.consensus.specs.Team.{table_at}
use Rattle.consensus.proofs.read_table.Goals as goal

pub returns : goal.returns
returns c =
    let p = c.requires in
    let a = c.args in
    let n = a.n in
    tree_read limit n (table_at n a.tables.now a.k) p.0.some p.0.few (part_sized n a.number a.tables.now p.0 a.k p.1)
    a.fars.now a.costs.now _ _ p.2 p.3 (rw (part_is n a.k a.tables.now) at c.exact.ensures)
