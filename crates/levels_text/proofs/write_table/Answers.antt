-- `levels_text::write_table` meets its contract: the reading of levels leaves the groups and their heights, or refuses with 21. Assumes nothing.
use Rattle.std.proofs.Common.{arith, sym}
use Rattle.text.specs.Laws.Pieces.{put_same}
use Rattle.levels_text.proofs.Laws.Table.{table_read, table_refused}
use Rattle.levels_text.proofs.write_table.Goals as goal

pub put_levels-requires : goal.put_levels-requires
put_levels-requires c =
    let t = c.args.t.now.formed in
    let r = table_read c.args.t.now c.levels.new.members c.levels.new.heights c.in-Ok.count c.in-Ok.ensures in
    (t.few, omega (arith, r.group-length, r.height-length), omega (arith, r.short))

pub returns-in-Err : goal.returns-in-Err
returns-in-Err c = put_same (sym (table_refused c.args.t.now c.levels.new.members c.levels.new.heights c.in-Err.q c.in-Err.ensures)) c.put_refusal.ensures
