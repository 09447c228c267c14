-- `climbing::put_uppers` meets its contract: the first r places are upper rows, and the others as they were. Assumes nothing.
use Rattle.std.proofs.Common.{arith, length-set, rules}
use Rattle.ground.specs.Laws.Buffers.{over-more, over_none}
use Rattle.theory.specs.Routes.{uppers}
use Rattle.climbing.specs.Laws.UpperRows.{upper-most, uppers-length}
use Rattle.climbing.proofs.put_uppers.Goals as goal

pub loop-r-init : goal.loop-r-init
loop-r-init c = (search rules, over_none _ _)

pub overflow_cast-out : goal.overflow_cast-out
overflow_cast-out c =
    let a = c.args in
    omega (arith, c.upper.ensures, upper-most a.fars.now c.loop-r.r c.loop-r-test.true)

pub loop-r-preserved : goal.loop-r-preserved
loop-r-preserved c =
    let a = c.args in (
      simp length-set c.loop-r.invariant.0,
      rw c.upper.ensures
          (over-more c.loop-r.r (uppers a.fars.now) a.out.now c.loop-r.out (omega (arith, uppers-length 1 a.fars.now)) (search rules)
          c.loop-r.invariant.1),
    )
