-- `newick_rows::put_tree` meets its contract: the pieces stand one behind the other. Assumes nothing.
use Rattle.text.specs.Laws.Putting.{put_then}
use Rattle.newick_rows.specs.Below.{tree_text}
use Rattle.newick_rows.proofs.Pieces.{last_inside}
use Rattle.newick_rows.proofs.put_tree.Goals as goal

pub returns : goal.returns
unfolding tree_text
returns c =
    let p = c.requires in
    rw (last_inside _ _ _ _ _ p.sized p.chained p.some)
    (put_then c.put_byte-open.ensures (put_then c.put_byte-one.ensures (put_then c.put_cost-first.ensures
    (put_then c.put_below-end.ensures c.put_byte.ensures))))
