-- The checks of the index call by their numbers. Assumes nothing.
use Rattle.std.specs.Prelude.{List, ℕ}
use Rattle.std.proofs.Common.{arith}
use Rattle.ground.specs.InOrder.{InOrder}
use Rattle.ground.specs.Laws.InOrder.{join-order, refuse_order}
use Rattle.ground.specs.Refusals.{refusal}
use Rattle.theory.specs.Tables.{cost}
use Rattle.tables.proofs.InOrder.{costs-order, size-order}
use Rattle.index.specs.Call.{bad_far_side, index_check}
pub use Rattle.index.specs.InOrder.{index_steps}

pub index-order : (L n : ℕ) (t : List ℕ) (S : ℕ) → InOrder (index_steps L n t S) (index_check L n t S)
index-order L n t S =
    join-order (size-order n t) (join-order (costs-order L (cost t n) n) (refuse_order (bad_far_side n S) (refusal 12 0 0 0 0) (omega arith)))
