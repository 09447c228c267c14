-- `wiring::scan_last` meets its contract: what is left answers as the whole does. Assumes nothing.
use Rattle.std.proofs.lemmas.Result.{err_from_is_err_and}
use Rattle.ground.specs.Laws.Lowest.{all_stops}
use Rattle.wiring.proofs.scan_last.Goals as goal

pub returns-in_err-check_four : goal.returns-in_err-check_four
returns-in_err-check_four c =
    let p = err_from_is_err_and c.from_residual.result c.from_residual.ensures.1 in
    rw (p.1, p.2, ← c.in_err-check_four.was) (all_stops _ _ _ c.loop-l-test.true c.loop-l.invariant c.in_err-check_four.was c.check_four.ensures)
