-- `joined_tables::put_next` meets its contract: the writer gets the rows of the table alone. Assumes nothing.
use Rattle.std.proofs.Common.{arith, length, length-drop, refl, ◌+◌, ◌-◌, ◌≡◌, ◌≤◌}
use Rattle.stored_links.proofs.Laws.Told.{form_small}
use Rattle.joined_tables.specs.Laws.Next.{next-count, next-length, next-room}
use Rattle.joined_tables.proofs.put_next.Goals as goal

pub slice_bounds-put_links-end-2 : goal.slice_bounds-put_links-end-2
slice_bounds-put_links-end-2 c =
    let there : (c.args.rows + c.args.count ≤ length c.args.fars.now)
    × (c.args.rows + c.args.count ≤ length c.args.costs.now) = let a = c.args in
    let z = next-length _ _ _ _ _ _ c.requires in
    let k = next-count _ _ _ _ _ _ c.requires in
    (omega (arith, z.0, k.0, k.2, length-drop a.rows a.fars.now), omega (arith, z.1, k.0, k.2, length-drop a.rows a.costs.now)) in omega (arith, there.1)

pub put_links-requires : goal.put_links-requires
put_links-requires c =
    let a = c.args in
    let e : a.rows + a.count - a.rows ≡ a.count = omega arith in
    let f = form_small a.edition in
    rw (e, c.requires.links.counted, c.requires.links.costed) (next-room _ _ _ _ _ _ f.0 f.1 c.requires, refl)
