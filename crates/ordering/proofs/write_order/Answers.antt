-- `ordering::write_order` meets its contract: from place i on the order stands, and what it placed is marked. Assumes nothing.
use Rattle.std.proofs.Common.{ap, ◌^◌, ◌∙◌}
use lib.Bits.{bit_or}
use Rattle.ordering.specs.Laws.Backward.{walked_begins, walked_ends, walked_more}
use Rattle.ordering.proofs.write_order.Goals as goal

pub loop-i-preserved : goal.loop-i-preserved
loop-i-preserved c =
    walked_more _ _ _ _ _ _ _ _ _ _ _ _
    c.requires.0
    c.loop-i.invariant c.loop-i-test.true
    c.next_left-w.ensures c.mark-placed-in-loop-i.ensures c.put-in-loop-i.ensures

pub returns : goal.returns
returns c =
    walked_ends _ _ _ _ _ _ _ _ _ _
    c.args.out.now
    c.loop-i.invariant c.loop-i-test.false
    c.put.ensures c.put-2.ensures

pub loop-i-init : goal.loop-i-init
loop-i-init c =
    walked_begins _ _ _ _ _ _ c.args.out.now c.args.t.now.formed.some c.requires.1 c.requires.2
    (c.mark-placed.ensures ∙ ap (λ placed. bit_or placed (2 ^ c.args.last)) c.mark.ensures) c.put.ensures
