-- `report::run` meets its contract: what is left of the reading from here is the whole reading. Assumes nothing.
use Rattle.std.proofs.Common.{refl, ◌∙◌}
use Rattle.report.specs.Laws.Onward.{running_more, running_stops}
use Rattle.report.specs.Laws.Run.{running_bytes, running_full, running_none, running_paused}
use Rattle.report.proofs.run.Goals.{else-loop-k-test, then-loop-k-test+then-bytes-here}
use Rattle.report.proofs.run.Goals as goal

pub loop-k-init : goal.loop-k-init
loop-k-init c =
    (refl, rw c.no_figures.ensures (running_none _ _ _ _ _ refl))

pub returns-in-Err : goal.returns-in-Err
returns-in-Err c =
    let r = c.loop-k.invariant.1 in
    let m = c.take_next.ensures.turned r.read (running_paused _ _ _ _ c.requires _ _ _ _ _ r c.loop-k-test.true) in
    rw c.in_table.ensures
    (running_stops _ _ _ _ c.requires _ _ _ _ _ r c.loop-k-test.true c.if-bytes-here.false _ _ _ _ (rw c.in-Err.is at m) _ refl)

pub loop-k-preserved : goal.loop-k-preserved
loop-k-preserved c =
    let r = c.loop-k.invariant.1 in
    let k = c.take_next.auto in
    let m = c.take_next.ensures.turned r.read (running_paused _ _ _ _ c.requires _ _ _ _ _ r c.loop-k-test.true) in (
      k.t ∙ c.loop-k.invariant.0,
      running_more _ _ _ _ c.requires _ _ _ _ _ r c.loop-k-test.true c.if-bytes-here.false _ _ _ _ (rw c.in-Ok.is at m) refl k.fars k.trees k.sums,
    )

pub returns : goal.returns
returns c =
    let r = c.loop-k.invariant.1 in
    elim c.loop-k-test.branch [
      | else-loop-k-test w ↦ running_full _ _ _ _ c.requires _ _ _ _ _ r w.loop-k-test.false
      | then-loop-k-test+then-bytes-here w ↦ running_bytes _ _ _ _ c.requires _ _ _ _ _ r w.if-bytes-here.true
    ]
