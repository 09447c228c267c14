-- `leaving::run` meets its contract: what is left of the replay from here is the whole replay; what falls is the number of events left.
-- Assumes nothing.
use Rattle.std.proofs.Common.{refl, sym, ◌∙◌}
use Rattle.leaving.specs.Laws.Events.{next-rows, running_end, running_more, running_stops}
use Rattle.leaving.specs.Laws.Sound.{sound_mendable}
use Rattle.leaving.proofs.run.Goals as goal

pub returns-in-Err : goal.returns-in-Err
returns-in-Err c =
    running_stops _ _ _ _ _ _ _ _ c.loop-i.invariant _ _ _ c.loop-i-test.true c.from-e.ensures refl (sym c.in-Err.is ∙ c.check_event.ensures)

pub mend-rows-requires : goal.mend-rows-requires
mend-rows-requires c =
    let z = next-rows _ _ _ _ _ c.loop-i.invariant.held (sym c.check_event.ensures ∙ c.in_default.is) in
    (z.3, z.2, sound_mendable _ _ _ _ z.4)

pub loop-i-preserved : goal.loop-i-preserved
loop-i-preserved c =
    running_more _ _ _ _ _ _ _ _ c.loop-i.invariant _ _ _ _ c.loop-i-test.true c.from-e.ensures (sym c.check_event.ensures ∙ c.in_default.is)
    c.mend-rows.ensures

pub returns : goal.returns
returns c = running_end _ _ _ _ _ _ _ _ c.loop-i.invariant c.loop-i-test.false
