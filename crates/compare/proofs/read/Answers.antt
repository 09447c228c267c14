-- `compare::read` meets its contract: what `graft::exact` promises, with 128 places. Assumes nothing.
use Rattle.std.proofs.Common.{arith, replicate}
use Rattle.theory.specs.Tables.{limit}
use Rattle.tree.proofs.Laws.Exact.{sides_read}
use Rattle.compare.proofs.read.Goals as goal

pub returns : goal.returns
returns c =
    let p = c.requires in
    sides_read limit c.args.n c.args.t.now p.0 p.1 c.args.fars.now (replicate 128 0) _ _
    (omega (arith, p.1, p.2)) (omega (arith, p.1)) c.exact.ensures
