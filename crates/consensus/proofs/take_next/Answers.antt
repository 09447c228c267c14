-- `consensus::take_next` meets its contract: one tree more is met with the rows held, or its table is refused. Assumes nothing.
use Rattle.std.proofs.Common.{arith, sym, ◌+◌, ◌∙◌}
use Rattle.theory.specs.Tables.{limit}
use Rattle.tree.specs.Exact.{Wired, exact_rows}
use Rattle.consensus.specs.Laws.Held.{held_ascends, held_cost_length, held_far_length, held_met}
use Rattle.consensus.specs.Laws.Sharing.{first_tree, tree_of}
use Rattle.consensus.proofs.Laws.Taking.{shares_next, taken_refused, taken-rows}
use Rattle.consensus.specs.Taking.{RowsHeld}
use Rattle.consensus.specs.Team.{table_at}
use Rattle.consensus.proofs.take_next.Goals as goal

pub slice_bounds-f-end : goal.slice_bounds-f-end
slice_bounds-f-end c =
    let tree : Wired limit c.args.n (table_at c.args.n c.args.tables.now c.args.k)
    × RowsHeld (exact_rows limit c.args.n (table_at c.args.n c.args.tables.now c.args.k))
    c.read_table.new.fars c.read_table.new.costs
    c.in-Ok.others = c.read_table.ensures.accepted _ c.in-Ok.is in
    let h = tree.1 in omega (arith, h.few, h.far-room)

pub slice_bounds-v-end : goal.slice_bounds-v-end
slice_bounds-v-end c =
    let tree : Wired limit c.args.n (table_at c.args.n c.args.tables.now c.args.k)
    × RowsHeld (exact_rows limit c.args.n (table_at c.args.n c.args.tables.now c.args.k))
    c.read_table.new.fars c.read_table.new.costs
    c.in-Ok.others = c.read_table.ensures.accepted _ c.in-Ok.is in
    let h = tree.1 in omega (arith, h.few, h.cost-room)

pub meet-requires : goal.meet-requires
meet-requires c =
    let tree : Wired limit c.args.n (table_at c.args.n c.args.tables.now c.args.k)
    × RowsHeld (exact_rows limit c.args.n (table_at c.args.n c.args.tables.now c.args.k))
    c.read_table.new.fars c.read_table.new.costs
    c.in-Ok.others = c.read_table.ensures.accepted _ c.in-Ok.is in
    let p = c.requires in
    let a = c.args in
    let h = p.3.held in
    let q = tree in (
      held_ascends h limit a.n p.0.few (first_tree limit a.n a.tables.now a.k p.1 p.3.wired),
      held_ascends q.1 limit a.n p.0.few (tree_of limit a.n _ q.0),
      sym (held_cost_length q.1) ∙ held_far_length q.1,
      omega (arith, h.few, h.far-room),
      omega (arith, h.few, h.cost-room),
    )

pub returns-in-Err : goal.returns-in-Err
returns-in-Err c =
    let p = c.requires in
    rw c.in_table.ensures
    (taken_refused limit c.args.n c.args.number c.args.tables.now _ _ p.0 c.args.k _ _ p.2 p.3.wired
    (c.read_table.ensures.refused _ c.in-Err.is))

pub returns-in-Ok : goal.returns-in-Ok
returns-in-Ok c =
    let tree : Wired limit c.args.n (table_at c.args.n c.args.tables.now c.args.k)
    × RowsHeld (exact_rows limit c.args.n (table_at c.args.n c.args.tables.now c.args.k))
    c.read_table.new.fars c.read_table.new.costs
    c.in-Ok.others = c.read_table.ensures.accepted _ c.in-Ok.is in
    let p = c.requires in
    let a = c.args in
    let q = tree in
    taken-rows limit a.n a.number a.tables.now _ _ p.0 (a.k + 1) _
    (shares_next limit a.n a.tables.now _ _ _ a.k p.1 p.3.wired q.0
    (held_met p.3.held _ _ _ q.1 c.meet.auto.fars c.meet.auto.costs c.meet.ensures))
