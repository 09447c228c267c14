-- `climbing::row_part` meets its contract: the far side holds exactly one image where the bits differ. Assumes nothing.
use Rattle.std.proofs.Common.{ne_eqb}
use Rattle.climbing.specs.Laws.PathSums.{apart-bits}
use Rattle.climbing.proofs.row_part.Goals as goal

pub returns-else-side : goal.returns-else-side
returns-else-side c =
    let a = c.args in
    rw (apart-bits a.s a.i a.j, ne_eqb _ _ (rw (c.side.ensures, c.side-2.ensures) at c.if-side.false))
