-- `tree::measured_rows` meets its contract: the rows are the reading of the first k images. Assumes nothing.
use Rattle.std.proofs.Common.{arith, refl, ◌∙◌}
use Rattle.growing.specs.Laws.Grown.{held_none}
use Rattle.growing.specs.Laws.Held.{held_written}
use Rattle.tree.proofs.measured_rows.Goals as goal

pub loop-k-init : goal.loop-k-init
loop-k-init c =
    let p = c.requires in (omega arith, held_none _ _ _ _ p.0 p.1, refl, refl, refl, refl)

pub loop-k-preserved : goal.loop-k-preserved
loop-k-preserved c =
    let i = c.loop-k.invariant in (
      omega (arith, i.0),
      held_written _ _ _ _ _ _ _ _ _ _ c.grow-count.ensures c.write_rows.ensures.0 c.write_rows.ensures.1 (c.write_rows.auto.fars ∙ i.1.far-room)
          (c.write_rows.auto.costs ∙ i.1.cost-room),
      c.grow-count.auto.fars ∙ i.2,
      c.grow-count.auto.costs ∙ i.3,
      c.grow-count.auto.steps ∙ i.4,
      c.grow-count.auto.best ∙ i.5,
    )
