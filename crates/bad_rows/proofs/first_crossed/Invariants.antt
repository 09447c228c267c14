-- `bad_rows::first_crossed` meets its contract: no row below j crosses row k. Assumes nothing.
use Rattle.std.proofs.Common.{get_or}
use Rattle.ground.specs.First.{NoneBelow}
use Rattle.bad_rows.specs.BadRows.{crosses}
use Rattle.bad_rows.proofs.first_crossed.Given as goal

abbrev pub invariant-loop-j : goal.invariant-loop-j
invariant-loop-j l = NoneBelow (λ j'. crosses (get_or l.fars j' 0) (get_or l.fars l.k 0)) l.j
