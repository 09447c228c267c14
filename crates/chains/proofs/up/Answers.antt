-- `chains::up` meets its contract: the sides below place i are passed, and place i holds z. Assumes nothing.
use Rattle.std.proofs.Common.{ap, arith, sym, ◌+◌, ◌∙◌}
use Rattle.theory.specs.Tables.{limit}
use Rattle.theory.proofs.Laws.FourPoint.{well_formed_less}
use Rattle.chains.specs.Laws.Climbs.{up_none, up_past}
use Rattle.upper_sides.proofs.Laws.Ends.{near-own}
use Rattle.upper_sides.specs.Links.{Holder}
use Rattle.upper_sides.specs.Laws.Uppers.{first_holder, upper_holder}
use Rattle.chains.proofs.up.Goals as goal

pub loop-i-init : goal.loop-i-init
loop-i-init c =
    let p = c.requires in
    let own = c.bit_alone-alone.ensures in
    let h = first_holder _ _ _ _ _ _ p.2 p.3 p.1 (omega (arith, c.args.t.now.formed.few)) c.from-i.ensures in
    let w = well_formed_less _ _ _ _ p.0 c.args.t.now.formed.formed in (
      h.few,
      h.holds,
      up_past _ _ _ _ _ _ _ _ _ _ _ h.from h.none
          (rw own (up_none _ _ _ _ _ _ _ (ap (λ x. limit + x) c.entry.ensures.0 ∙ sym (near-own _ _ _ w _ p.1)) p.4)),
    )

pub loop-i-preserved : goal.loop-i-preserved
loop-i-preserved c =
    let p = c.requires in
    let t = c.loop-i-test.true in
    let h : Holder c.args.sides.now c.args.count c.args.z (c.loop-i.i + 1) c.from-i-in-loop-i.result = upper_holder _ _ _ _ _ _ _ p.2.chained p.3 t (c.loop-i.invariant.1 t) c.from-i-in-loop-i.ensures in
    (h.few, h.holds, up_past _ _ _ _ _ _ _ _ _ _ _ h.from h.none c.turn_up-cut.ensures)
