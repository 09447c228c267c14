-- `chains::level` meets its contract: the least so far and the least over the rest make the least over all. Assumes nothing.
use Rattle.std.proofs.Common.{min, ◌*◌, ◌<◌, ◌^◌, ◌≡◌, ◌≤◌}
use Rattle.ground.specs.Bits.{bit}
use Rattle.ground.specs.Least.{least_on}
use Rattle.theory.specs.Tables.{limit}
use Rattle.tables.specs.Entries.{costs_in}
use Rattle.upper_sides.specs.Chains.{ahead}
use Rattle.chains.proofs.level.Given as goal

abbrev pub invariant-loop-rest : goal.invariant-loop-rest
invariant-loop-rest l = (l.rest < 2 ^ l.k) × (l.low ≤ 4 * limit) × (l.gap ≤ 4 * limit)
    × (min l.low (least_on l.k (bit l.rest) 1 (4 * limit) (ahead limit (costs_in l.t) l.k l.z)) ≡ min l.near (least_on l.k (bit l.m) 1 (4 * limit) (ahead limit (costs_in l.t) l.k l.z)))
    × (min l.gap (least_on l.k (bit l.rest) 1 (4 * limit) (ahead limit (costs_in l.t) l.z l.k)) ≡ least_on l.k (bit l.m) 1 (4 * limit) (ahead limit (costs_in l.t) l.z l.k))

abbrev pub decreases-loop-rest : goal.decreases-loop-rest
decreases-loop-rest l = l.rest
