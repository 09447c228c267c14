-- `levels_text::write_stored` meets its contract: the reader leaves a cost table, or its refusal. Assumes nothing.
use Rattle.std.proofs.Common.{sym}
use Rattle.text.specs.Laws.Pieces.{put_same}
use Rattle.levels_text.proofs.Laws.Stored.{stored_read, stored_refusal}
use Rattle.levels_text.proofs.write_stored.Goals as goal

pub invariant_of-write_table : goal.invariant_of-write_table
invariant_of-write_table c = record { formed = (stored_read c.args.bytes.now c.read_costs.new.out c.in-Ok.read c.in-Ok.ensures).table }

pub returns-in-Err : goal.returns-in-Err
returns-in-Err c = put_same (sym (stored_refusal c.args.bytes.now c.read_costs.new.out c.in-Err.q c.in-Err.ensures)) c.put_refusal.ensures

pub returns-in-Ok : goal.returns-in-Ok
returns-in-Ok c = put_same (sym (stored_read c.args.bytes.now c.read_costs.new.out c.in-Ok.read c.in-Ok.ensures).text) c.write_table.ensures
