-- `bits::edition_at` meets its contract: past the end there are no bytes, else the part from the position on tells. Assumes nothing.
use Rattle.std.proofs.Common.{arith, drop, length-drop, sym, ◌/◌}
use Rattle.bits.specs.Laws.Editions.{edition_none}
use Rattle.bits.proofs.edition_at.Goals as goal

pub returns-then-bytes-position : goal.returns-then-bytes-position
returns-then-bytes-position c =
    let a = c.args in
    sym (edition_none (drop (a.position / 8) a.bytes.now) (omega (arith, length-drop (a.position / 8) a.bytes.now, c.if-bytes-position.true)))
