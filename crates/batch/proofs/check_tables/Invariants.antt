-- `batch::check_tables` meets its contract: each turn looks at the next table, with the rows and the room that are left. Assumes nothing.
use Rattle.std.proofs.Common.{length, ◌≡◌, ◌≤◌}
use Rattle.batch.specs.Batch.{batch_from}
use Rattle.batch.specs.Laws.Steps.{answer_at}
use Rattle.joined_tables.specs.Tables.{tables}
use Rattle.link_forms.specs.Form.{link_form}
use Rattle.batch.proofs.check_tables.Given as goal

abbrev pub invariant-loop-i : goal.invariant-loop-i
invariant-loop-i l = (l.rows ≤ length l.fars) × (l.rows ≤ length l.costs) × (l.used ≤ l.room)
    × (batch_from (link_form l.edition) 0 0 (tables l.ns l.counts) l.fars l.costs l.room ≡ answer_at (link_form l.edition) l.ns l.counts l.fars l.costs l.room l.used l.rows l.i-counter)
