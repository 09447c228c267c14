-- `upper_sides::turn_link` meets its contract: one side more has gone by. Assumes nothing.
use Rattle.std.proofs.Common.{rules, ◌<◌, ◌^◌}
use Rattle.upper_sides.specs.Laws.Uppers.{both_less, linking_more}
use Rattle.upper_sides.proofs.turn_link.Goals as goal

pub overflow_sub-both : goal.overflow_sub-both
overflow_sub-both c =
    let fits : c.args.seen < 2 ^ 64 = search rules in
    let p = c.requires in both_less _ _ _ _ _ p.1 p.2 fits p.3

pub returns : goal.returns
returns c =
    let fits : c.args.seen < 2 ^ 64 = search rules in
    let p = c.requires in
    linking_more _ _ _ _ _ p.1 p.2 fits p.3 _ _
    (c.next.ensures) c.mark.ensures
