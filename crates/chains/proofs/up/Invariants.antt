-- `chains::up` meets its contract: the sides below place i are passed, and place i holds z. Assumes nothing.
use Rattle.std.proofs.Common.{get_or, ◌-◌, ◌<◌, ◌≡◌, ◌≤◌}
use Rattle.ground.specs.Bits.{bit}
use Rattle.theory.specs.Tables.{limit}
use Rattle.tables.specs.Entries.{costs_in}
use Rattle.chains.specs.Walks.{Up}
use Rattle.chains.proofs.up.Given as goal

abbrev pub invariant-loop-i : goal.invariant-loop-i
invariant-loop-i l = (l.i ≤ l.count) × (l.i < l.count → bit (get_or l.sides l.i 0) l.z ≡ 1) × Up limit (costs_in l.t) l.k l.z l.sides l.i l.cut.held l.cut.near l.cut.depth l.steps

abbrev pub decreases-loop-i : goal.decreases-loop-i
decreases-loop-i l = l.count - l.i
