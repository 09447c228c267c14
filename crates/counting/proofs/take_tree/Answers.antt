-- `counting::take_tree` meets its contract: judged by 19 before the first store, then put in and counted. Assumes nothing.
use Rattle.std.proofs.Common.{arith, take}
use Rattle.counting.specs.Laws.Before.{last_few, last_is, numbers_fit, sides_few}
use Rattle.counting.specs.Laws.PutIn.{moved_tree, put_ready}
use Rattle.counting.specs.Laws.Taken.{far_ascends, far_few, fresh_ready, more-sides, moved_many, not_many}
use Rattle.counts.proofs.Laws.Formula.{inners_le}
use Rattle.std.proofs.lemmas.Result.{err_from_is_err_and}
use Rattle.figures.specs.Laws.Pairs.{pair_cap}
use Rattle.counting.proofs.take_tree.Goals as goal

pub fresh-requires : goal.fresh-requires
fresh-requires c =
    fresh_ready _ _ _ _ _ _ _ _ _ c.requires.ready

pub overflow_add-all : goal.overflow_add-all
overflow_add-all c =
    let y = c.requires.ready in
    let a = c.args in
    record {
      fits = omega (
        arith,
        sides_few _ _ _ _ _ y.table.read.stands y.table.read.holds,
        c.fresh.ensures,
        inners_le a.n (take a.tree.now.count a.tree.now.fars),
        far_few _ _ _ _ _ _ _ _ _ y,
      );
    }

pub returns-in_err-refuse_if : goal.returns-in_err-refuse_if
returns-in_err-refuse_if c =
    let p = err_from_is_err_and c.from_residual.result c.from_residual.ensures.1 in
    rw (p.1, p.2) (record { taken = λ ts u y. moved_many _ _ _ _ _ _ _ _ _ y _ (more-sides _ _ _ _ _ _ _ _ _ y _ c.fresh.ensures) c.refuse_if.ensures c.in_err-refuse_if.was })

pub count_pair-pair-requires : goal.count_pair-pair-requires
count_pair-pair-requires c =
    let y = c.requires.ready in
    let b = y.table.read in
    let o = y.table.one in (
      b.formed.some,
      b.formed.few,
      last_is _ _ _ _ _ b.stands b.holds _ o,
      far_ascends _ _ _ _ _ _ _ _ _ y,
      last_few _ _ _ _ _ b.stands b.holds _ o,
      far_few _ _ _ _ _ _ _ _ _ y,
    )

pub put_rows-requires : goal.put_rows-requires
put_rows-requires c =
    let y = c.requires.ready in
    let few = not_many _ _ _ _ _ _ _ _ _ c.requires.ready _ c.refuse_if.ensures c.in_ok-refuse_if.was in
    put_ready _ _ _ _ _ _ _ _ _ y _ (more-sides _ _ _ _ _ _ _ _ _ y _ c.fresh.ensures) few

pub with_tree-requires : goal.with_tree-requires
with_tree-requires c =
    let y = c.requires.ready in
    let a = c.args in
    let b = y.table.read in
    let o = y.table.one in
    let q = pair_cap a.n a.here.now.figures.accepted (take a.here.now.rows a.here.now.last) (take a.tree.now.count a.tree.now.fars)
    (last_few _ _ _ _ _ b.stands b.holds _ o) (far_few _ _ _ _ _ _ _ _ _ y) in
    numbers_fit _ _ _ _ _ b.stands b.holds _ o _ _ b.formed.few b.below (rw c.count_pair-pair.ensures q) b.fits

pub returns : goal.returns
returns c =
    let few = not_many _ _ _ _ _ _ _ _ _ c.requires.ready _ c.refuse_if.ensures c.in_ok-refuse_if.was in
    rw c.with_tree.ensures
    (record {
      taken = λ ts u y.
          moved_tree _ _ _ _ _ _ _ _ _ y _ _ _ _ _ (more-sides _ _ _ _ _ _ _ _ _ y _ c.fresh.ensures) few
          c.count_pair-pair.ensures c.put_rows.ensures;
    })
