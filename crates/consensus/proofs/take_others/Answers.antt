-- `consensus::take_others` meets its contract: the rows held are those that the first k tables share. Assumes nothing.
use Rattle.std.proofs.Common.{arith, ◌≡◌}
use Rattle.theory.specs.Tables.{limit}
use Rattle.consensus.proofs.Laws.Taking.{taken-rows}
use Rattle.consensus.proofs.take_others.Goals as goal

pub loop-k-preserved : goal.loop-k-preserved
loop-k-preserved c = c.take_next.ensures.accepted _ c.in_ok-count.was

pub returns : goal.returns
returns c =
    let e : c.loop-k.k ≡ c.args.number = omega arith in
    taken-rows limit c.args.n c.args.number c.args.tables.now _ _ c.requires.0 c.args.number _ (rw e at c.loop-k.invariant)
