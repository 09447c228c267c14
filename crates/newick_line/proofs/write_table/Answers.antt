-- `newick_line::write_table` meets its contract: the exact reading leaves a link table, or refuses with 7. Assumes nothing.
use Rattle.std.proofs.Common.{sym}
use Rattle.text.specs.Laws.Pieces.{put_same}
use Rattle.table_text.proofs.Laws.Read.{reading_refused, rows_read}
use Rattle.newick_line.specs.Laws.Read.{line_read, line_refused}
use Rattle.newick_line.proofs.write_table.Goals as goal

pub write_links-requires : goal.write_links-requires
write_links-requires c =
    ((rows_read c.args.t.now c.exact.new.fars c.exact.new.costs c.in-Ok.count c.in-Ok.ensures).links, c.requires)

pub returns-in-Err : goal.returns-in-Err
returns-in-Err c =
    let refused = reading_refused c.args.t.now c.exact.new.fars c.exact.new.costs c.in-Err.q c.in-Err.ensures in
    put_same (sym (line_refused c.args.t.now.n c.args.t.now.entries.now _ refused)) c.put_refusal.ensures

pub returns-in-Ok : goal.returns-in-Ok
returns-in-Ok c =
    let read = rows_read c.args.t.now c.exact.new.fars c.exact.new.costs c.in-Ok.count c.in-Ok.ensures in
    put_same (sym (line_read _ _ _ _ _ read)) c.write_links.ensures
