-- `compare::against_second` meets its contract: the second tree's far sides stand where they were read. Assumes nothing.
use Rattle.std.specs.Prelude.{Ok}
use Rattle.std.proofs.Common.{arith, rules, ◌≡◌}
use Rattle.theory.specs.Tables.{limit}
use Rattle.tree.proofs.Laws.Exact.{read_accepted}
use Rattle.compare.proofs.against_second.Goals as goal

pub differ-requires : goal.differ-requires
differ-requires c =
    let p = c.requires in
    let was : c.read.result ≡ Ok c.in_ok-count.count = search rules in
    let q = read_accepted limit c.args.n c.args.second.now p.0 p.1 c.read.ensures was in
    (p.2, q.ascending, p.3, omega (arith, q.counted, q.few, p.1))
