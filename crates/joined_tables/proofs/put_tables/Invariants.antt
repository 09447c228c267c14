-- `joined_tables::put_tables` meets its contract: each turn writes the next table into the rest of the lent bytes. Assumes nothing.
use Rattle.std.proofs.Common.{drop, length, ◌-◌, ◌≡◌, ◌≤◌}
use Rattle.ground.specs.Buffers.{front}
use Rattle.link_forms.specs.Form.{link_form}
use Rattle.joined_tables.specs.Bytes.{batch_bytes}
use Rattle.joined_tables.specs.Fitting.{BatchFits}
use Rattle.joined_tables.proofs.Laws.Joined.{joined_at}
use Rattle.joined_tables.specs.Tables.{tables}
use Rattle.joined_tables.proofs.put_tables.Given as goal

abbrev pub invariant-loop-table : goal.invariant-loop-table
invariant-loop-table l = (length l.out ≡ length l.initial.out) × (l.used ≤ length l.initial.out) × (l.rows ≤ length l.fars)
    × BatchFits (link_form l.edition) (drop l.table (tables l.ns l.counts)) (drop l.rows l.fars) (drop l.rows l.costs) (length l.initial.out - l.used)
    × (front (batch_bytes (link_form l.edition) (tables l.ns l.counts) l.fars l.costs) l.initial.out ≡ joined_at (link_form l.edition) l.ns l.counts l.fars l.costs l.out l.used l.rows l.table)
