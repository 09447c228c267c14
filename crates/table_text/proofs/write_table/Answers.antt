-- `table_text::write_table` meets its contract: the exact reading leaves a link table, or refuses with 7. Assumes nothing.
use Rattle.std.proofs.Common.{sym}
use Rattle.text.specs.Laws.Pieces.{put_same}
use Rattle.table_text.proofs.Laws.Read.{reading_refused, rows_read}
use Rattle.table_text.specs.Laws.Accepted.{text_read, text-refused}
use Rattle.table_text.proofs.write_table.Goals as goal

pub write_links-requires : goal.write_links-requires
write_links-requires c =
    (c.requires.0, (rows_read c.args.t.now c.exact_by.new.fars c.exact_by.new.costs c.in-Ok.count c.in-Ok.ensures).links, c.requires.1)

pub returns-in-Err : goal.returns-in-Err
returns-in-Err c =
    let refused = reading_refused c.args.t.now c.exact_by.new.fars c.exact_by.new.costs c.in-Err.q c.in-Err.ensures in
    put_same (sym (text-refused c.args.last c.args.t.now.n c.args.t.now.entries.now _ refused)) c.put_refusal.ensures

pub returns-in-Ok : goal.returns-in-Ok
returns-in-Ok c =
    let read = rows_read c.args.t.now c.exact_by.new.fars c.exact_by.new.costs c.in-Ok.count c.in-Ok.ensures in
    put_same (sym (text_read c.args.last _ _ _ _ _ read)) c.write_links.ensures
