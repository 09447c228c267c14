-- `graft::read` meets its contract: where each image can be grafted, the wiring check would pass; else it refuses. Assumes nothing.
use Rattle.std.proofs.Common.{sym, ◌∙◌}
use Rattle.graft.specs.Laws.Answer.{ordered_by, reading_refused, reading_written}
use Rattle.graft.proofs.read.Goals as goal

pub can_graft_all-requires : goal.can_graft_all-requires
can_graft_all-requires c = (ordered_by c.args.t.now _ c.write_order.ensures).seated

pub write_grafted-requires : goal.write_grafted-requires
write_grafted-requires c =
    let p = c.requires in
    ((ordered_by c.args.t.now _ c.write_order.ensures).seated, sym c.can_graft_all.ensures ∙ c.if-can_graft_all.true, p.0, p.1)

pub returns-then-can_graft_all : goal.returns-then-can_graft_all
returns-then-can_graft_all c =
    reading_written c.args.t.now _ (ordered_by c.args.t.now _ c.write_order.ensures) _ _ _ _ _ c.can_graft_all.ensures c.if-can_graft_all.true
    c.write_grafted.ensures

pub returns : goal.returns
returns c =
    reading_refused c.args.t.now _ (ordered_by c.args.t.now _ c.write_order.ensures) _ _ _ c.can_graft_all.ensures c.if-can_graft_all.false
    c.refuse.ensures
