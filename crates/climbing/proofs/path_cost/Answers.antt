-- `climbing::path_cost` meets its contract: the sum so far and the path cost of the rest are the whole. Assumes nothing.
use Rattle.std.proofs.Common.{arith, rules}
use Rattle.std.proofs.lemmas.List.{length_push}
use Rattle.std.proofs.lemmas.Slice.Zip.{zip_turn}
use Rattle.climbing.specs.Laws.PathSums.{path-more}
use Rattle.climbing.proofs.path_cost.Goals as goal

pub overflow_add-sum : goal.overflow_add-sum
overflow_add-sum c =
    let a = c.args in
    let k = c.loop-s in
    let t =
    zip_turn a.fars.now a.costs.now k.yielded c.into_iter-s-iterator.result k.s-iterator c.next.new.self _ (cc) (cc) k.yielded_by _ c.in-Some.is c.next.ensures.steps in
    let m = path-more a.fars.now a.costs.now (search rules) a.i a.j _ k.sum _ k.invariant t.0 in
    omega (arith, c.row_part-sum.ensures, rw (← t.2 0, ← t.3 0) at m)

pub loop-s-preserved : goal.loop-s-preserved
loop-s-preserved c =
    let a = c.args in
    let k = c.loop-s in
    let t =
    zip_turn a.fars.now a.costs.now k.yielded c.into_iter-s-iterator.result k.s-iterator c.next.new.self _ (cc) (cc) k.yielded_by _ c.in-Some.is c.next.ensures.steps in
    let m = path-more a.fars.now a.costs.now (search rules) a.i a.j _ k.sum _ k.invariant t.0 in
    rw (length_push k.yielded (c.in-Some.s, c.in-Some.c), c.row_part-sum.ensures) (rw (← t.2 0, ← t.3 0) at m)
