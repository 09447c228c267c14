-- The checks of a stored cost table by their numbers. Assumes nothing.
use Rattle.std.specs.Prelude.{List, [], ◌∷◌, ℕ, ◌*◌, ◌+◌, ◌/◌, drop}
use Rattle.std.proofs.Common.{arith}
use Rattle.ground.specs.InOrder.{InOrder}
use Rattle.ground.specs.Laws.InOrder.{join-order, room-order, step-order}
use Rattle.ground.specs.Steps.{◌by◌}
use Rattle.theory.specs.Laws.InOrder.{images-order}
use Rattle.tables.specs.Checks.{entry_check}
use Rattle.tables.proofs.InOrder.{entry_only, off_diagonal_order}
use Rattle.tables.proofs.Laws.Pairs.{pairs_only}
use Rattle.bits.specs.Forms.{bytes_for}
use Rattle.bits.specs.Laws.InOrder.{end_order, fill_order, position_order}
use Rattle.bits.specs.declared.Form.{Form}
use Rattle.cost_forms.specs.Entries.{entry_cost}
use Rattle.cost_forms.specs.Form.{cost_used}
use Rattle.cost_forms.specs.Said.{entry_of, fill_of, images_of}
use Rattle.stored_costs.specs.Reading.{read_at_checks, read_checks, stored_check, table_checks, values_check}
pub use Rattle.stored_costs.specs.InOrder.{values_steps, read_steps, table_steps, read_at_steps}

-- 4
pub stored_order : (L : ℕ) (d : ℕ → ℕ → ℕ) (n : ℕ) → InOrder (4 by stored_check L d n ∷ []) (stored_check L d n)
stored_order L d n =
    step-order 4 (stored_check L d n) (omega arith) (pairs_only (entry_check L d) n 4 (entry_only L d))

values_order : (L : ℕ) (d : ℕ → ℕ → ℕ) (n : ℕ) → InOrder (values_steps L d n) (values_check L d n)
values_order L d n = join-order (stored_order L d n) (off_diagonal_order d n)

read_order : (form : Form) (s : List ℕ) (room : ℕ) → InOrder (read_steps form s room) (read_checks form s room)
read_order form s room =
    let n = images_of form s in
    join-order (join-order (end_order s (bytes_for (form.head + 7))) (join-order (images-order n) (room-order (n * n) room)))
    (join-order (join-order (end_order s (cost_used form n)) (fill_order (fill_of form n s))) (values_order form.limit (entry_cost (entry_of form s) n) n))

pub table-order : (form : Form) (s : List ℕ) → InOrder (table_steps form s) (table_checks form s)
table-order form s =
    let n = images_of form s in
    join-order (end_order s (bytes_for (form.head + 7)))
    (join-order (images-order n)
    (join-order (join-order (end_order s (cost_used form n)) (fill_order (fill_of form n s)))
    (values_order form.limit (entry_cost (entry_of form s) n) n)))

pub read_at_order : (form : Form) (bytes : List ℕ) (position room : ℕ) → InOrder (read_at_steps form bytes position room) (read_at_checks form bytes position room)
read_at_order form bytes position room = join-order (position_order bytes position) (read_order form (drop (position / 8) bytes) room)
