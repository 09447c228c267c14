-- `chains::level` meets its contract: the least so far and the least over the rest make the least over all. Assumes nothing.
use Rattle.std.proofs.Common.{arith, rules, ◌<◌, ◌≤◌}
use Rattle.upper_sides.specs.Chains.{gap_on}
use Rattle.upper_sides.specs.Laws.Lowest.{lowest_below, ones_end, ones_none, ones_turn, without_fits}
use Rattle.chains.proofs.level.Goals as goal

pub loop-rest-init : goal.loop-rest-init
loop-rest-init c = (search rules, search rules, search rules, search rules, ones_none _ _ _ _)

pub turn_ahead-low-requires : goal.turn_ahead-low-requires
turn_ahead-low-requires c =
    let some : 0 < c.loop-rest.rest = search rules in
    let few : c.args.k ≤ 64 = omega (arith, c.args.t.now.formed.few) in
    let p = c.requires in
    (p.0, p.1, omega (arith, lowest_below _ _ 0 some c.loop-rest.invariant.0 few))

pub turn_ahead-gap-requires : goal.turn_ahead-gap-requires
turn_ahead-gap-requires c =
    let some : 0 < c.loop-rest.rest = search rules in
    let few : c.args.k ≤ 64 = omega (arith, c.args.t.now.formed.few) in
    let p = c.requires in
    (p.1, p.0, omega (arith, lowest_below _ _ 0 some c.loop-rest.invariant.0 few))

pub loop-rest-preserved : goal.loop-rest-preserved
loop-rest-preserved c =
    let some : 0 < c.loop-rest.rest = search rules in
    let few : c.args.k ≤ 64 = omega (arith, c.args.t.now.formed.few) in
    let i = c.loop-rest.invariant in (
      rw c.without_lowest-rest.ensures (without_fits _ _ 0 some i.0 few),
      omega (arith, c.turn_ahead-low.ensures, i.1),
      omega (arith, c.turn_ahead-gap.ensures, i.2),
      ones_turn _ _ _ _ some i.0 few _ c.lowest-y.ensures c.without_lowest-rest.ensures
          c.turn_ahead-low.ensures i.3,
      ones_turn _ _ _ _ some i.0 few _ c.lowest-y.ensures c.without_lowest-rest.ensures
          c.turn_ahead-gap.ensures i.4,
    )

pub returns : goal.returns
unfolding gap_on
returns c =
    let i = c.loop-rest.invariant in
    (ones_end _ _ _ _ (search rules) i.1 i.3, ones_end _ _ _ _ (search rules) i.2 i.4)
