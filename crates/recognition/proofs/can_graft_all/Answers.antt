-- `recognition::can_graft_all` meets its contract: all images up to place p can be grafted. Assumes nothing.
use Rattle.std.proofs.Common.{arith, sym, ◌∙◌}
use Rattle.recognition.specs.Laws.Below.{below_fails, below_more, below_none}
use Rattle.recognition.proofs.can_graft_all.Goals as goal

pub loop-p-init : goal.loop-p-init
loop-p-init c = below_none _

pub loop-p-preserved : goal.loop-p-preserved
loop-p-preserved c =
    below_more _ _ c.loop-p.invariant (sym c.can_graft.ensures ∙ c.if-not-can_graft.false)

pub returns-then-not-can_graft : goal.returns-then-not-can_graft
returns-then-not-can_graft c = below_fails _ c.loop-p.p _ (omega arith) (sym c.can_graft.ensures ∙ c.if-not-can_graft.true)
