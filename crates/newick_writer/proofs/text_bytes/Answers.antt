-- `newick_writer::text_bytes` meets its contract: what is summed, and the bytes of the rows that are left, are all bytes. Assumes nothing.
use Rattle.std.proofs.Common.{arith}
use Rattle.std.proofs.lemmas.List.{length_push}
use Rattle.std.proofs.lemmas.Slice.Zip.{zip_turn}
use Rattle.newick_writer.specs.Laws.Summing.{from_row, row_most}
use Rattle.newick_writer.proofs.text_bytes.Goals as goal

pub loop-s-preserved : goal.loop-s-preserved
loop-s-preserved c =
    let k = c.loop-s in
    let t =
    zip_turn c.args.fars.now c.args.costs.now k.yielded c.into_iter-s-iterator.result k.s-iterator c.next.new.self _ (cc) (cc) k.yielded_by _ c.in-Some.is c.next.ensures.steps in
    let r = from_row _ _ _ t.0 t.1 in
    let b = row_most (c.in-Some.s.now, c.in-Some.c.now) in
    rw (length_push k.yielded (c.in-Some.s, c.in-Some.c))
    (omega (arith, k.invariant.0, c.row_bytes-sum.ensures, b), omega (arith, k.invariant.1, c.row_bytes-sum.ensures, (rw (← t.2 0, ← t.3 0) at r)))
