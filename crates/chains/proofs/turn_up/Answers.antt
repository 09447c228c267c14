-- `chains::turn_up` meets its contract: the least over the side, what it adds and its place are kept. Assumes nothing.
use Rattle.std.proofs.Common.{arith, refl, ◌≤◌}
use Rattle.chains.specs.Laws.Climbs.{up_cap, up_deep, up_in, up_less}
use Rattle.chains.proofs.turn_up.Goals as goal

pub overflow_sub-s : goal.overflow_sub-s
overflow_sub-s c =
    let p = c.requires in up_less _ _ _ _ _ _ _ _ _ _ p.4 p.1 p.5 p.6

pub level-b-requires : goal.level-b-requires
level-b-requires c =
    let p = c.requires in
    (p.0, omega arith, omega (arith, p.4.fits c.args.i (omega arith)), up_cap _ _ _ _ _ _ _ _ _ _ p.4 p.1 p.5 p.6)

pub keep_step-depth-requires : goal.keep_step-depth-requires
keep_step-depth-requires c =
    let p = c.requires in
    let deep : c.args.cut.depth ≤ c.args.i = up_deep _ _ _ _ _ _ _ _ _ _ p.4 p.1 p.5 p.6 in
    (omega (arith, deep, p.2), p.6.climbed.room)

pub returns : goal.returns
returns c =
    let p = c.requires in
    rw (c.keep_step-depth.ensures.0, c.keep_step-depth.ensures.1)
    (up_in _ _ _ _ _ _ _ _ _ _ p.4 p.1 p.5 p.6 p.2 c.level-b.ensures.0 c.level-b.ensures.1 refl)
