-- The checks of a stored link table by their numbers. Assumes nothing.
use Rattle.std.specs.Prelude.{List, ℕ, ◌*◌, ◌+◌, ◌-◌, ◌/◌, drop}
use Rattle.ground.specs.InOrder.{InOrder}
use Rattle.ground.specs.Laws.InOrder.{join-order, room-order}
use Rattle.bits.specs.Forms.{bytes_for}
use Rattle.bits.specs.Laws.InOrder.{end_order, fill_order, position_order}
use Rattle.bits.specs.declared.Form.{Form}
use Rattle.links.specs.InOrder.{count-order, row-order}
use Rattle.link_forms.specs.Form.{link_used}
use Rattle.stored_links.specs.Reading.{body_checks, head_checks, read_at_checks, read_checks, table_checks}
use Rattle.link_forms.specs.Said.{costs_of, count_of, fars_of, fill_of, images_of}
pub use Rattle.stored_links.specs.InOrder.{head_steps, body_steps, stored_steps, read_steps, read_at_steps}

head_order : (form : Form) (s : List ℕ) → InOrder (head_steps form s) (head_checks form s)
head_order form s = join-order (end_order s (bytes_for (form.head + 14))) (count-order (images_of form s) (count_of form s))

body_order : (form : Form) (n N : ℕ) (s : List ℕ) → InOrder (body_steps form n N s) (body_checks form n N s)
body_order form n N s =
    join-order (end_order s (link_used form n N))
    (join-order (fill_order (fill_of form n N s)) (row-order form.limit n (fars_of form n N s) (costs_of form n N s)))

pub table-order : (form : Form) (s : List ℕ) → InOrder (stored_steps form s) (table_checks form s)
table-order form s = join-order (head_order form s) (body_order form (images_of form s) (count_of form s) s)

read_order : (form : Form) (s : List ℕ) (room : ℕ) → InOrder (read_steps form s room) (read_checks form s room)
read_order form s room =
    join-order (head_order form s) (join-order (room-order (2 * images_of form s - 3) room) (body_order form (images_of form s) (count_of form s) s))

pub read_at_order : (form : Form) (bytes : List ℕ) (position room : ℕ) → InOrder (read_at_steps form bytes position room) (read_at_checks form bytes position room)
read_at_order form bytes position room = join-order (position_order bytes position) (read_order form (drop (position / 8) bytes) room)
