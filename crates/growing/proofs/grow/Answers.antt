-- `growing::grow` meets its contract: the three parts, one behind the other, are the reading over one image more. Assumes nothing.
use Rattle.std.proofs.Common.{refl, ◌∙◌}
use Rattle.growing.proofs.Parts.{all-held, few, given-inside, given-outside, inside-fits, outside-fits, own-fits, rowed}
use Rattle.growing.proofs.grow.Goals as goal

pub brought-own-requires : goal.brought-own-requires
brought-own-requires c =
    let p = c.requires in (p.0, p.1, rowed c.args.t.now _ p.0 p.1 _ _ _ p.2, refl, refl, p.3, p.5, p.6)

pub put_rows-outside-requires : goal.put_rows-outside-requires
put_rows-outside-requires c =
    let p = c.requires in
    let b = c.brought-own in (
      few c.args.t.now _ p.1,
      given-outside c.args.t.now _ p.0 p.1 _ _ _ p.2 _ _ _ _ b.ensures b.auto.outs,
      outside-fits c.args.t.now _ p.0 p.1 _ _ _ p.2 _ _ _ _ b.ensures _ _ (b.auto.sides ∙ p.3) p.4,
    )

pub turn_row-middle-requires : goal.turn_row-middle-requires
turn_row-middle-requires c =
    let p = c.requires in
    let b = c.brought-own in
    let r = own-fits c.args.t.now _ p.0 p.1 _ _ _ p.2 _ _ _ _ b.ensures _ _ (b.auto.sides ∙ p.3) p.4 _ _ _ c.put_rows-outside.ensures in
    (few c.args.t.now _ p.1, r.0, r.1)

pub put_rows-requires : goal.put_rows-requires
put_rows-requires c =
    let p = c.requires in
    let b = c.brought-own in
    let image = c.bit_alone-image.ensures in
    rw image (
      few c.args.t.now _ p.1,
      given-inside c.args.t.now _ p.0 p.1 _ _ _ p.2 _ _ _ _ b.ensures b.auto.ins,
      inside-fits c.args.t.now _ p.0 p.1 _ _ _ p.2 _ _ _ _ b.ensures _ _ (b.auto.sides ∙ p.3) p.4 _ _ _ c.put_rows-outside.ensures _ _ _
          (rw image at c.turn_row-middle.ensures),
    )

pub returns : goal.returns
returns c =
    let p = c.requires in
    let b = c.brought-own in
    let image = c.bit_alone-image.ensures in
    all-held c.args.t.now _ p.0 p.1 _ _ _ p.2 _ _ _ _ b.ensures _ _ (b.auto.sides ∙ p.3) p.4 _ _ _ c.put_rows-outside.ensures _ _ _
    (rw image at c.turn_row-middle.ensures) _ _ _ (rw image at c.put_rows.ensures)
