-- `bad_rows::is_bad_side` meets its contract: the last return rewrites with the tests that led there. Assumes nothing.
use Rattle.std.proofs.Common.{ne_eqb}
use borrow.Author.Tests.{lt-leb}
use Rattle.ground.specs.Laws.Shifts.{beyond}
use Rattle.bad_rows.proofs.is_bad_side.Goals as goal

pub returns-then-n-lt64 : goal.returns-then-n-lt64
returns-then-n-lt64 c =
    let a = c.args in
    rw (lt-leb _ _ c.if-s-before.false, ne_eqb _ _ c.if-s-eq1.false) (beyond a.n a.s)
