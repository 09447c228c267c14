-- `grafting::own_rows` meets its contract: the own links of the images 1 to i are there, and at the end that of image 0. Assumes nothing.
use Rattle.std.proofs.Common.{arith, ◌-◌, ◌≡◌}
use Rattle.grafting.specs.Laws.OwnTable.{own_end, own-more, own_none}
use Rattle.grafting.proofs.own_rows.Goals as goal

pub loop-i-init : goal.loop-i-init
loop-i-init c = own_none _ _ _ (omega (arith, c.requires.0))

pub loop-i-preserved : goal.loop-i-preserved
loop-i-preserved c =
    let p = c.requires in
    own-more _ _ _ _ _ _ c.loop-i.invariant p.2 p.3 _ c.own_link.ensures (omega arith)

pub returns : goal.returns
returns c =
    let p = c.requires in
    let q : c.loop-i.i ≡ c.args.n - 1 = omega arith in
    own_end _ _ _ _ _ _ (rw q at c.loop-i.invariant) p.2 p.3 _ c.own_link-2.ensures p.0 (omega arith)
