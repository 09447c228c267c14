-- `newick_rows::put_below` meets its contract: the pieces stand one behind the other. Assumes nothing.
use Rattle.std.proofs.Common.{rules, sym}
use Rattle.text.specs.Laws.Pieces.{put_same}
use Rattle.text.specs.Laws.Putting.{put_then}
use Rattle.newick_rows.proofs.Laws.Below.{put_none, zero_at}
use Rattle.newick_rows.proofs.Pieces.{earlier_less, inner_less, row_length, row_pieces}
use Rattle.newick_rows.proofs.+put_below.Goals as goal

pub returns-then-k-eq0 : goal.returns-then-k-eq0
returns-then-k-eq0 t c =
    let a = c.args in
    put_same (sym (zero_at a.above.now a.fars.now a.costs.now a.k _ a.end c.if-k-eq0.true)) (put_none a.at a.out.now)

pub put_below-first-requires : goal.put_below-first-requires
put_below-first-requires t c =
    let p = c.requires in
    let m = earlier_less _ _ _ _ _ _ c.args.end p.sized p.chained c.if-k-eq0.false p.known in
    let n = row_length _ _ _ _ _ _ c.args.end p.sized p.chained c.if-k-eq0.false p.known in search rules

pub put_below-closed-requires : goal.put_below-closed-requires
put_below-closed-requires t c =
    let p = c.requires in
    let m = inner_less _ _ _ _ _ _ c.args.end p.sized p.chained c.if-k-eq0.false p.known in
    let n = row_length _ _ _ _ _ _ c.args.end p.sized p.chained c.if-k-eq0.false p.known in search rules

pub returns : goal.returns
returns t c =
    let p = c.requires in
    put_same (sym (row_pieces _ _ _ _ _ _ _ p.sized p.chained c.if-k-eq0.false p.known))
    (put_then c.put_below-first.ensures (put_then c.put_opening-open.ensures (put_then c.put_below-closed.ensures c.put_cost.ensures)))
