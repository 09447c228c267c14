-- Stored cost tables with two images that cost nothing, as they could be written before those were refused: what a conversion makes of them. s are
-- the bytes that it was given, out the lent ones. Assumes nothing.
use Rattle.std.specs.Prelude.{List, ℕ, ◌+◌, ◌<◌}
use Rattle.ground.specs.Refusals.{◌then◌, Check}
use Rattle.theory.specs.Checks.{images_check}
use Rattle.theory.specs.Tables.{cost}
use Rattle.bits.specs.Forms.{bytes_for}
use Rattle.bits.specs.Kinds.{end_check}
use Rattle.cost_forms.specs.Entries.{entry_cost}
use Rattle.cost_forms.specs.Form.{cost_form_at}
use Rattle.cost_forms.specs.Said.{entry_of}
use Rattle.stored_costs.specs.Reading.{body_checks, stored_check}
use Rattle.conversion.specs.Costs.{images_said, table_said}

-- all that was asked of a stored cost table before: 9, 1, 9, 11, 4
abbrev pub earlier_checks : List ℕ → Check
earlier_checks s =
    let form = cost_form_at s 0 in
    end_check s (bytes_for (form.head + 7)) then images_check (images_said s) then body_checks form (images_said s) s
    then stored_check form.limit (entry_cost (entry_of form s) (images_said s)) (images_said s)

-- no two different images of the table cost nothing
abbrev pub NoZeros : List ℕ → Type 0
NoZeros s = (i j : ℕ) → i < j → j < images_said s → 0 < cost (table_said s) (images_said s) i j
