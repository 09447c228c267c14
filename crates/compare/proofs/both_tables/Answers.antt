-- `compare::both_tables` meets its contract: the first tree's far sides stand where they were read. Assumes nothing.
use Rattle.std.specs.Prelude.{Ok}
use Rattle.std.proofs.Common.{arith, rules, ◌≡◌}
use Rattle.theory.specs.Tables.{limit}
use Rattle.tree.proofs.Laws.Exact.{read_accepted}
use Rattle.compare.proofs.both_tables.Goals as goal

pub against_second-requires : goal.against_second-requires
against_second-requires c =
    let p = c.requires in
    let was : c.read.result ≡ Ok c.in_ok-count.count = search rules in
    let q = read_accepted limit c.args.n c.args.first.now p.0 p.1 c.read.ensures was in
    (p.0, p.1, q.ascending, omega (arith, q.counted, q.few, p.1))
