-- `grafting::extend_path` meets its contract: what is kept of the path, and the own link of the new image. Assumes nothing.
use Rattle.std.proofs.Common.{arith, suc, ◌^◌, ◌∙◌, ◌≡◌}
use Rattle.tables.specs.Entries.{costs_in}
use Rattle.recognition.specs.Seats.{seat}
use Rattle.grafting.specs.Laws.Growing.{keep-room, path_extended, path_few, seats_bit}
use Rattle.grafting.proofs.extend_path.Goals as goal

pub keep_rows-rest-requires : goal.keep_rows-rest-requires
keep_rows-rest-requires c =
    let image : c.bit_alone-image.result ≡ 2 ^ seat c.args.o.now (suc c.args.p) = c.bit_alone-image.ensures ∙ seats_bit c.args.o.now c.args.p _ c.seat_of.ensures.0 in
    let a = c.args in
    rw image (keep-room (costs_in a.t.now) a.o.now a.p a.m _ _ c.requires.2 a.t.now.n a.t.now.formed.few c.requires.0.places
    (omega (arith, c.requires.1)))

pub add_row-requires : goal.add_row-requires
add_row-requires c =
    let k = c.keep_rows-rest.ensures in
    let p = c.requires in
    let m = path_few (costs_in c.args.t.now) c.args.o.now c.args.p c.args.m _ _ p.2 in
    (omega (arith, k.few, m, p.1, c.args.t.now.formed.few, k.side-size, p.2.side-room), omega (arith, k.few, m, p.1, c.args.t.now.formed.few, k.length-size, p.2.length-room))

pub returns : goal.returns
returns c =
    let image : c.bit_alone-image.result ≡ 2 ^ seat c.args.o.now (suc c.args.p) = c.bit_alone-image.ensures ∙ seats_bit c.args.o.now c.args.p _ c.seat_of.ensures.0 in
    let a = c.args in
    path_extended (costs_in a.t.now) a.o.now a.p a.m _ _ c.requires.2 _ _ _ _ _ _ _ _ _ c.height_at.ensures image
    c.own_cost-own.ensures c.keep_rows-rest.ensures c.add_row.ensures
