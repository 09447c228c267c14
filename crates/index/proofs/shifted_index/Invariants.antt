-- `index::shifted_index` meets its contract: v is the index over the first k images. Assumes nothing.
use Rattle.std.proofs.Common.{◌≡◌}
use Rattle.ground.specs.Bits.{bit}
use Rattle.theory.specs.Index.{shifted}
use Rattle.theory.specs.Tables.{limit}
use Rattle.tables.specs.Entries.{costs_in}
use Rattle.index.proofs.shifted_index.Given as goal

abbrev pub invariant-loop-k : goal.invariant-loop-k
invariant-loop-k l = (l.v ≡ shifted limit (costs_in l.t) l.k (bit l.s))
