-- `leveling::scan_last` meets its contract: what is left answers as the whole does. Assumes nothing.
use Rattle.std.proofs.lemmas.Result.{err_from_is_err_and}
use Rattle.ground.specs.Laws.Lowest.{all_stops}
use Rattle.leveling.proofs.scan_last.Goals as goal

pub returns-in_err-check_three : goal.returns-in_err-check_three
returns-in_err-check_three c =
    let p = err_from_is_err_and c.from_residual.result c.from_residual.ensures.1 in
    rw (p.1, p.2, ← c.in_err-check_three.was)
    (all_stops _ _ _ c.loop-k-test.true c.loop-k.invariant c.in_err-check_three.was c.check_three.ensures)
