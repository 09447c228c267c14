-- `counting::take_table` meets its contract: the exact reading gives 7, or the tree that is taken. Assumes nothing.
use Rattle.std.proofs.Common.{arith, refl, replicate}
use Rattle.counting.specs.Laws.Apart.{moved_apart}
use Rattle.counting.specs.Laws.Before.{numbers_fit}
use Rattle.counting.specs.Laws.Exact.{exact_apart, exact_ready}
use Rattle.counting.proofs.take_table.Goals as goal

pub with_apart-requires : goal.with_apart-requires
with_apart-requires c =
    let y = c.requires.ready in
    let b = y.read in
    numbers_fit _ _ _ _ _ b.stands b.holds _ y.one _ _ b.formed.few b.below (omega arith) b.fits

pub take_tree-requires : goal.take_tree-requires
take_tree-requires c =
    record { ts = c.requires.ts; u = c.args.t.now; ready = exact_ready _ _ _ _ (replicate 128 0) (replicate 128 0) _ _ _ _ _ _ c.requires.ready refl refl _ c.exact.ensures _ c.in-Ok.is c.exact.auto.fars c.exact.auto.costs }

pub returns-in-Err : goal.returns-in-Err
returns-in-Err c =
    rw c.with_apart.ensures
    (record {
      taken = λ ts y.
          moved_apart ts _ _ _ _ _ _ _ y
          (exact_apart c.args.n c.args.more c.args.t.now (replicate 128 0) (replicate 128 0) _ _ y.read.formed refl refl _
          c.exact.ensures _ c.in-Err.is);
    })

pub returns-in-Ok : goal.returns-in-Ok
returns-in-Ok c =
    record { taken = λ ts y. c.take_tree.ensures.taken ts _ (exact_ready ts _ _ _ (replicate 128 0) (replicate 128 0) _ _ _ _ _ _ y refl refl _ c.exact.ensures _ c.in-Ok.is c.exact.auto.fars c.exact.auto.costs) }
