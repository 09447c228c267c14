-- `link_writer::put_form` meets its contract: the mark and n, the row count, the rows and the fill bits, one behind the other, make the form.
-- Assumes nothing.
use Rattle.std.proofs.Common.{arith, get_or, length, ◌*◌, ◌+◌}
use Rattle.bits.specs.Laws.Numbers.{length-bits_of}
use Rattle.packer.specs.Gathering.{Room}
use Rattle.packer.specs.Laws.Putting.{room-begun, room_then}
use Rattle.link_forms.specs.Form.{row_width}
use Rattle.link_forms.specs.Laws.Rows.{length-rows}
use Rattle.link_writer.specs.Laws.Putting.{form_put}
use Rattle.link_writer.proofs.put_form.Goals as goal

pub put-counted-requires : goal.put-counted-requires
put-counted-requires c =
    let room : Room (length c.start-begun.new.out) c.start-begun.result (7 + row_width c.args.form.width c.args.n * length c.args.fars.now) = let a = c.args in
    room-begun a.form a.n (7 + row_width a.form.width a.n * length a.fars.now) (omega (arith, c.requires.0.fits, c.start-begun.auto.out))
    c.start-begun.ensures in
    let r = room in (omega arith, record { part = r.part; within = omega (arith, r.within) })

pub put_rows-rowed-requires : goal.put_rows-rowed-requires
put_rows-rowed-requires c =
    let room : Room (length c.start-begun.new.out) c.start-begun.result (7 + row_width c.args.form.width c.args.n * length c.args.fars.now) = let a = c.args in
    room-begun a.form a.n (7 + row_width a.form.width a.n * length a.fars.now) (omega (arith, c.requires.0.fits, c.start-begun.auto.out))
    c.start-begun.ensures in
    let rows-room : Room (length c.put-counted.new.out) c.put-counted.result
    (row_width c.args.form.width c.args.n * length c.args.fars.now) = let a = c.args in
    rw c.put-counted.auto.out
    (room_then (row_width a.form.width a.n * length a.fars.now) room c.put-counted.ensures
    (rw length-bits_of (omega arith))) in
    let h = c.requires.0.small in
    (omega (arith, h.some), h.few, h.narrow, rows-room, c.requires.1)

pub finish-requires : goal.finish-requires
finish-requires c =
    let room : Room (length c.start-begun.new.out) c.start-begun.result (7 + row_width c.args.form.width c.args.n * length c.args.fars.now) = let a = c.args in
    room-begun a.form a.n (7 + row_width a.form.width a.n * length a.fars.now) (omega (arith, c.requires.0.fits, c.start-begun.auto.out))
    c.start-begun.ensures in
    let rows-room : Room (length c.put-counted.new.out) c.put-counted.result
    (row_width c.args.form.width c.args.n * length c.args.fars.now) = let a = c.args in
    rw c.put-counted.auto.out
    (room_then (row_width a.form.width a.n * length a.fars.now) room c.put-counted.ensures
    (rw length-bits_of (omega arith))) in
    let a = c.args in
    let r = room_then 0 rows-room c.put_rows-rowed.ensures
    (omega (arith, length-rows a.form.width a.n (λ k. get_or a.fars.now k 0) (λ k. get_or a.costs.now k 0) (length a.fars.now))) in
    (r.part, omega (arith, r.within, c.put_rows-rowed.auto.out))

pub returns : goal.returns
returns c =
    let a = c.args in
    form_put a.form a.n a.fars.now a.costs.now (λ i. (c.slice_known-5-1.given i).fits) c.start-begun.ensures c.put-counted.ensures
    c.put_rows-rowed.ensures c.finish.ensures
