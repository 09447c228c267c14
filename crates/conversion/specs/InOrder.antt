-- The checks of both conversions by their numbers. Assumes nothing.
use Rattle.std.specs.Prelude.{List, ◌++◌, ℕ}
use Rattle.ground.specs.Steps.{Step}
use Rattle.theory.specs.Tables.{cost}
use Rattle.bits.specs.declared.Edition.{Edition}
use Rattle.cost_forms.specs.Form.{cost_form, cost_form_at}
use Rattle.link_forms.specs.Form.{link_form, link_form_at}
use Rattle.conversion.specs.Costs.{cost_checks, table_said}
use Rattle.conversion.specs.Links.{costs_said, fars_said, link_checks}
use Rattle.stored_costs.proofs.InOrder as costs-read
use Rattle.cost_writer.proofs.InOrder as costs-written
use Rattle.stored_links.proofs.InOrder as links-read
use Rattle.link_writer.specs.InOrder as links-written
use Rattle.conversion.specs.Costs as costs
use Rattle.conversion.specs.Links as links

-- 9, 1, 9, 11, 4, 20, 17, 3
abbrev pub cost_steps : Edition → List ℕ → ℕ → List Step
cost_steps e s room =
    costs-read.table_steps (cost_form_at s 0) s ++ costs-written.store_steps (cost_form e) (costs.images_said s) (cost (table_said s) (costs.images_said s)) room

-- 9, 1, 10, 9, 11, 12, 13, 17, 3
abbrev pub link_steps : Edition → List ℕ → ℕ → List Step
link_steps e s room =
    links-read.stored_steps (link_form_at s 0) s ++ links-written.store_steps (link_form e) (links.images_said s) (fars_said s) (costs_said s) room
