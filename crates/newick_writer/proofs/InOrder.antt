-- The checks of the Newick writer by their numbers: N rows, l the far sides, v the doubled costs. Assumes nothing.
use Rattle.std.specs.Prelude.{List, ℕ, length}
use Rattle.ground.specs.InOrder.{InOrder}
use Rattle.ground.specs.Laws.InOrder.{join-order, room-order}
use Rattle.theory.specs.LinkTables.{rows_of}
use Rattle.theory.specs.Tables.{limit}
use Rattle.links.specs.InOrder.{row-order, size-order}
use Rattle.newick_text.specs.LinkTrees.{newick}
use Rattle.newick_writer.specs.Writing.{write_checks}
pub use Rattle.newick_writer.specs.InOrder.{write_steps}

pub write_order : (n N : ℕ) (l v : List ℕ) (room : ℕ) → InOrder (write_steps n N l v room) (write_checks n N l v room)
write_order n N l v room =
    join-order (join-order (size-order n N l v) (row-order limit n l v)) (room-order (length (newick (rows_of l v))) room)
