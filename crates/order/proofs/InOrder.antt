-- The checks of the order call by their numbers. Assumes nothing.
use Rattle.std.specs.Prelude.{List, ℕ}
use Rattle.std.proofs.Common.{arith}
use Rattle.ground.specs.InOrder.{InOrder}
use Rattle.ground.specs.Laws.InOrder.{join-order, refuse_order, room-order}
use Rattle.ground.specs.Refusals.{refusal}
use Rattle.theory.specs.Tables.{cost}
use Rattle.tables.proofs.InOrder.{costs-order, size-order}
use Rattle.order.specs.Outcome.{bad_ends, order_checks}
pub use Rattle.order.specs.InOrder.{order_steps}

pub order-order : (L n : ℕ) (t : List ℕ) (first last room : ℕ) → InOrder (order_steps L n t first last room) (order_checks L n t first last room)
unfolding order_checks
order-order L n t first last room =
    join-order (size-order n t)
    (join-order (room-order n room) (join-order (costs-order L (cost t n) n) (refuse_order (bad_ends n first last) (refusal 8 0 0 0 0) (omega arith))))
