-- `newick_line::write_stored` meets its contract: the reader leaves a cost table, or its refusal. Assumes nothing.
use Rattle.std.proofs.Common.{sym}
use Rattle.text.specs.Laws.Pieces.{put_same}
use Rattle.listing_text.proofs.Laws.Read.{stored_read, stored_refusal}
use Rattle.newick_line.specs.Line.{newick_line, table_line}
use Rattle.newick_line.proofs.write_stored.Goals as goal

pub invariant_of-write_table : goal.invariant_of-write_table
invariant_of-write_table c = record { formed = (stored_read table_line c.args.bytes.now c.read_costs.new.out c.in-Ok.read c.in-Ok.ensures).table }

pub returns-in-Err : goal.returns-in-Err
unfolding newick_line
returns-in-Err c =
    put_same (sym (stored_refusal table_line c.args.bytes.now c.read_costs.new.out c.in-Err.q c.in-Err.ensures)) c.put_refusal.ensures

pub returns-in-Ok : goal.returns-in-Ok
unfolding newick_line
returns-in-Ok c =
    put_same (sym (stored_read table_line c.args.bytes.now c.read_costs.new.out c.in-Ok.read c.in-Ok.ensures).text) c.write_table.ensures
