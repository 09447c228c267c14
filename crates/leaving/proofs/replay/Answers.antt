-- `leaving::replay` meets its contract: the start is checked and read before the first store, and what is left is written once.
-- Assumes nothing.
use Rattle.std.proofs.Common.{length, refl, replicate}
use Rattle.leaving.specs.Laws.Outcome.{left_replayed}
use Rattle.leaving.specs.Laws.Start.{Began, began}
use Rattle.leaving.proofs.replay.Goals as goal

pub finish-requires : goal.finish-requires
finish-requires c =
    let a = c.args in
    let b : Began a.n a.t.now (length a.fars.now) (length a.costs.now) c.in-Ok.count c.exact.new.fars c.exact.new.costs =
    began _ _ (replicate 128 0) (replicate 128 0) _ _ refl refl _ _ _ _ _ c.in_default.is c.check_start.ensures c.in-Ok.is c.exact.ensures
    c.exact.auto.fars c.exact.auto.costs in
    (b.held, b.far_places, b.cost_places)

pub returns-in-Ok : goal.returns-in-Ok
returns-in-Ok c =
    let a = c.args in
    let b : Began a.n a.t.now (length a.fars.now) (length a.costs.now) c.in-Ok.count c.exact.new.fars c.exact.new.costs =
    began _ _ (replicate 128 0) (replicate 128 0) _ _ refl refl _ _ _ _ _ c.in_default.is c.check_start.ensures c.in-Ok.is c.exact.ensures
    c.exact.auto.fars c.exact.auto.costs in
    left_replayed a.n a.t.now a.events.now a.fars.now a.costs.now _ _ _ b _ _ _ c.finish.ensures
