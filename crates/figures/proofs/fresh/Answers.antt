-- `report::fresh` meets its contract. Assumes nothing.
use Rattle.std.proofs.Common.{length-take-le, refl, sym, take, ◌^◌}
use Rattle.figures.specs.Laws.Pairs.{common_few}
use Rattle.figures.proofs.fresh.Goals as goal

pub overflow_sub-result : goal.overflow_sub-result
overflow_sub-result c =
    let p = c.requires in
    let a = c.args in
    rw (c.common_rows.ensures, c.inner_rows.ensures) (common_few a.n (2 ^ a.n) (take a.sides a.kept.now) a.next.now p.1 p.2)
