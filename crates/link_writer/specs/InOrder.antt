-- The checks of the link writer by their numbers: N rows, l the far sides, v the doubled costs. Assumes nothing.
use Rattle.std.specs.Prelude.{List, [], ◌++◌, ◌∷◌, ℕ, ◌+◌, ltb, length}
use Rattle.std.proofs.Common.{arith}
use Rattle.ground.specs.First.{first}
use Rattle.ground.specs.InOrder.{InOrder}
use Rattle.ground.specs.Laws.InOrder.{join-order, refuse_order, room-order}
use Rattle.ground.specs.Refusals.{refusal, room_check}
use Rattle.ground.specs.Steps.{Step, ◌by◌}
use Rattle.theory.specs.Tables.{limit}
use Rattle.bits.specs.declared.Form.{Form}
use Rattle.links.specs.InOrder.{row-order, row_steps, size-order, size_steps}
use Rattle.link_forms.specs.Form.{link_used}
use Rattle.link_writer.specs.Writing.{fit_check, fit_checks, large, store_checks, write_checks}

-- 17, 3
abbrev pub store_steps : Form → ℕ → List ℕ → List ℕ → ℕ → List Step
store_steps form n l v room = 17 by fit_check form.limit v ∷ 3 by room_check (link_used form n (length l)) room ∷ []

pub store_order : (form : Form) (n : ℕ) (l v : List ℕ) (room : ℕ) → InOrder (store_steps form n l v room) (store_checks form n l v room)
store_order form n l v room =
    let row = first (large form.limit v) (length v) in
    join-order (refuse_order (ltb row (length v)) (refusal 17 (row + 1) 0 0 0) (omega arith)) (room-order (link_used form n (length l)) room)

-- 12, 13, 17, 3
abbrev pub fit_steps : Form → ℕ → List ℕ → List ℕ → ℕ → List Step
fit_steps form n l v room = row_steps limit n l v ++ store_steps form n l v room

pub fit_order : (form : Form) (n : ℕ) (l v : List ℕ) (room : ℕ) → InOrder (fit_steps form n l v room) (fit_checks form n l v room)
fit_order form n l v room = join-order (row-order limit n l v) (store_order form n l v room)

-- 1, 10, 2, 12, 13, 17, 3
abbrev pub write_steps : Form → ℕ → ℕ → List ℕ → List ℕ → ℕ → List Step
write_steps form n N l v room = (size_steps n N l v ++ row_steps limit n l v) ++ store_steps form n l v room

pub write_order : (form : Form) (n N : ℕ) (l v : List ℕ) (room : ℕ) → InOrder (write_steps form n N l v room) (write_checks form n N l v room)
write_order form n N l v room = join-order (join-order (size-order n N l v) (row-order limit n l v)) (store_order form n l v room)
