-- `graft::write_grafted` meets its contract: the grafted rows are the exact ones, and fit. Assumes nothing.
use Rattle.graft.specs.Laws.Answer.{table_written}
use Rattle.graft.proofs.write_grafted.Goals as goal

pub returns : goal.returns
returns c =
    let p = c.requires in
    let w = c.write_rows.ensures in
    table_written c.args.t.now c.args.o.now p.0 p.1 _ _ _ c.graft_all-count.ensures _ _ _ _ w.0 w.1
