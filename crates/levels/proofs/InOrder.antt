-- The checks of the reading of levels by their numbers. Assumes nothing.
use Rattle.std.specs.Prelude.{List, min, ℕ, ◌-◌}
use Rattle.ground.specs.InOrder.{InOrder}
use Rattle.ground.specs.Laws.InOrder.{join-order, room-order}
use Rattle.theory.specs.Tables.{cost}
use Rattle.tables.proofs.InOrder.{costs-order, size-order}
use Rattle.leveling.specs.InOrder.{levels_order}
use Rattle.levels.specs.Outcome.{levels_checks}
pub use Rattle.levels.specs.InOrder.{call_steps}

pub call_order : (L n : ℕ) (t : List ℕ) (g v : ℕ) → InOrder (call_steps L n t g v) (levels_checks L n t g v)
unfolding levels_checks
call_order L n t g v =
    join-order (size-order n t)
    (join-order (room-order (n - 1) (min g v)) (join-order (costs-order L (cost t n) n) (levels_order (cost t n) n)))
