-- The checks of both conversions by their numbers. Assumes nothing.
use Rattle.std.specs.Prelude.{List, ℕ}
use Rattle.ground.specs.InOrder.{InOrder}
use Rattle.ground.specs.Laws.InOrder.{join-order}
use Rattle.theory.specs.Tables.{cost}
use Rattle.bits.specs.declared.Edition.{Edition}
use Rattle.cost_forms.specs.Form.{cost_form, cost_form_at}
use Rattle.link_forms.specs.Form.{link_form, link_form_at}
use Rattle.conversion.specs.Costs.{cost_checks, table_said}
use Rattle.conversion.specs.Links.{costs_said, fars_said, link_checks}
use Rattle.stored_costs.proofs.InOrder as costs-read
use Rattle.cost_writer.proofs.InOrder as costs-written
use Rattle.stored_links.proofs.InOrder as links-read
use Rattle.link_writer.specs.InOrder as links-written
use Rattle.conversion.specs.Costs as costs
use Rattle.conversion.specs.Links as links
pub use Rattle.conversion.specs.InOrder.{cost_steps, link_steps}

pub cost-order : (e : Edition) (s : List ℕ) (room : ℕ) → InOrder (cost_steps e s room) (cost_checks e s room)
cost-order e s room =
    join-order (costs-read.table-order (cost_form_at s 0) s)
    (costs-written.store_order (cost_form e) (costs.images_said s) (cost (table_said s) (costs.images_said s)) room)

pub link_order : (e : Edition) (s : List ℕ) (room : ℕ) → InOrder (link_steps e s room) (link_checks e s room)
link_order e s room =
    join-order (links-read.table-order (link_form_at s 0) s)
    (links-written.store_order (link_form e) (links.images_said s) (fars_said s) (costs_said s) room)
