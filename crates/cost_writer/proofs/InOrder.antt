-- The checks of the cost writer by their numbers. Assumes nothing.
use Rattle.std.specs.Prelude.{List, ℕ, ◌+◌, ltb}
use Rattle.std.proofs.Common.{arith}
use Rattle.ground.specs.InOrder.{InOrder}
use Rattle.ground.specs.Laws.InOrder.{join-order, refuse_if_only, room-order, step-order}
use Rattle.ground.specs.Refusals.{refusal}
use Rattle.theory.specs.Tables.{cost, limit}
use Rattle.tables.proofs.InOrder.{costs-order, size-order}
use Rattle.tables.proofs.Laws.Pairs.{pairs_only}
use Rattle.bits.specs.declared.Form.{Form}
use Rattle.cost_forms.specs.Form.{cost_used}
use Rattle.cost_limits.specs.Checks.{fit_check, large_check}
use Rattle.cost_writer.specs.Writing.{store_checks, write_checks}
pub use Rattle.cost_writer.specs.InOrder.{store_steps, write_steps}

pub store_order : (form : Form) (n : ℕ) (d : ℕ → ℕ → ℕ) (room : ℕ) → InOrder (store_steps form n d room) (store_checks form n d room)
store_order form n d room =
    let L = form.limit in
    join-order (step-order 17 (fit_check L d n) (omega arith)
    (pairs_only (large_check L d) n 17 (λ i j. refuse_if_only (ltb L (d i j)) (refusal 17 (i + 1) (j + 1) 0 0))))
    (room-order (cost_used form n) room)

pub write_order : (form : Form) (n : ℕ) (t : List ℕ) (room : ℕ) → InOrder (write_steps form n t room) (write_checks form n t room)
write_order form n t room = join-order (join-order (size-order n t) (costs-order limit (cost t n) n)) (store_order form n (cost t n) room)
