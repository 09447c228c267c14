-- `listing_text::write_stored` meets its contract: the reader leaves a cost table, or its refusal. Assumes nothing.
use Rattle.std.proofs.Common.{sym}
use Rattle.text.specs.Laws.Pieces.{put_same}
use Rattle.listing_text.proofs.Laws.Read.{last_asked, stored_read, stored_refusal}
use Rattle.listing_text.specs.Listing.{listing_text, text_with}
use Rattle.listing_text.proofs.write_stored.Goals as goal

pub invariant_of-table : goal.invariant_of-table
invariant_of-table c = record { formed = (stored_read (text_with c.args.which) c.args.bytes.now c.read_costs.new.out c.in-Ok.read c.in-Ok.ensures).table }

pub write_table-requires : goal.write_table-requires
write_table-requires c =
    let read = stored_read (text_with c.args.which) c.args.bytes.now c.read_costs.new.out c.in-Ok.read c.in-Ok.ensures in
    (last_asked c.args.which _ _ read.table _ c.last_image.ensures, c.requires)

pub returns-in-Err : goal.returns-in-Err
unfolding listing_text
returns-in-Err c =
    put_same (sym (stored_refusal (text_with c.args.which) c.args.bytes.now c.read_costs.new.out c.in-Err.q c.in-Err.ensures)) c.put_refusal.ensures

pub returns-in-Ok : goal.returns-in-Ok
unfolding listing_text
returns-in-Ok c =
    let read = stored_read (text_with c.args.which) c.args.bytes.now c.read_costs.new.out c.in-Ok.read c.in-Ok.ensures in
    put_same (sym read.text) (rw c.last_image.ensures at c.write_table.ensures)
