-- `packer::put` meets its contract: the field joins the bits gathered, in one number, and whole bytes go out. Assumes nothing.
use Rattle.std.proofs.Common.{arith, ◌%◌, ◌+◌, ◌≡◌, ◌≤◌}
use native.Mathlib.Nat.{mod-eq_of_lt}
use Rattle.packer.specs.Laws.Joined.{joined_clear, joined_lt}
use Rattle.packer.specs.Laws.Putting.{field_put}
use Rattle.packer.proofs.put.Goals as goal

pub overflow_add-bits : goal.overflow_add-bits
overflow_add-bits c =
    let whole : c.args.g.count % 8 ≡ c.args.g.count = mod-eq_of_lt c.requires.1.part.few in
    let fits : c.args.g.count + c.args.width ≤ 64 = omega (arith, c.requires.0, c.requires.1.part.few) in
    let a = c.args in
    let lt = joined_lt a.g.bits a.g.count a.width a.value (omega (arith, c.requires.0)) fits c.requires.1.part.clear (omega arith) in
    record { fits = rw whole lt }

pub drain-requires : goal.drain-requires
drain-requires c =
    let whole : c.args.g.count % 8 ≡ c.args.g.count = mod-eq_of_lt c.requires.1.part.few in
    let fits : c.args.g.count + c.args.width ≤ 64 = omega (arith, c.requires.0, c.requires.1.part.few) in
    let a = c.args in
    let clear = joined_clear a.g.bits a.g.count a.width a.value (omega (arith, c.requires.0)) fits c.requires.1.part.clear in
    rw whole
    (omega (arith, c.requires.0, c.requires.1.part.few), record { most = fits; clear = clear; within = omega (arith, c.requires.1.within) })

pub returns : goal.returns
returns c =
    let whole : c.args.g.count % 8 ≡ c.args.g.count = mod-eq_of_lt c.requires.1.part.few in
    let fits : c.args.g.count + c.args.width ≤ 64 = omega (arith, c.requires.0, c.requires.1.part.few) in
    let a = c.args in
    field_put a.out.now _ a.g c.drain.result a.width a.value (omega (arith, c.requires.0)) fits c.requires.1.part.clear
    (rw whole at c.drain.ensures)
