-- `newick_writer::text_bytes` meets its contract: what is summed, and the bytes of the rows that are left, are all bytes. Assumes nothing.
use Rattle.std.proofs.Common.{length, ◌*◌, ◌+◌, ◌≡◌, ◌≤◌}
use Rattle.theory.specs.LinkTables.{rows_of}
use Rattle.newick_writer.specs.Bytes.{text_bytes}
use Rattle.newick_writer.specs.Laws.Summing.{bytes_from}
use Rattle.newick_writer.proofs.text_bytes.Given as goal

abbrev pub invariant-loop-s : goal.invariant-loop-s
invariant-loop-s l = (l.sum ≤ 2 + 42 * length l.yielded)
    × (l.sum + bytes_from l.fars l.costs (length l.yielded) ≡ text_bytes (rows_of l.fars l.costs))
