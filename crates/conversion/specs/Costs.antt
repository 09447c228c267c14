-- A stored cost table in another form: what the conversion of the lent bytes s answers and leaves, e being the form that is asked for.
-- Assumes nothing.
use Rattle.std.specs.Prelude.{List, ◌≡◌, ℕ, ◌<◌, ◌≤◌, length, Ok}
use Rattle.ground.specs.Outcomes.{Outcome}
use Rattle.ground.specs.Refusals.{◌then◌, Check, Written}
use Rattle.theory.specs.Tables.{cost}
use Rattle.bits.specs.declared.Edition.{Edition}
use Rattle.bits.specs.declared.Form.{Form}
use Rattle.cost_forms.specs.Form.{cost_form, cost_form_at, cost_used}
use Rattle.cost_forms.specs.Said.{images_of, stored_table}
use Rattle.stored_costs.specs.Reading.{table_checks}
use Rattle.cost_limits.specs.Checks.{fit_check}
use Rattle.cost_writer.specs.Writing.{store_checks, stored_if}

-- the images of the table that s begins with, in the form that it tells, and the table
abbrev pub images_said : List ℕ → ℕ
images_said s = images_of (cost_form_at s 0) s

abbrev pub table_said : List ℕ → List ℕ
table_said s = stored_table (cost_form_at s 0) (images_said s) s

-- the bytes that it uses in the form e
abbrev pub used_in : Edition → List ℕ → ℕ
used_in e s = cost_used (cost_form e) (images_said s)

-- 9, 1, 9, 11, 4, 20, 17, 3: the reader's without 3, then those of the form that is asked for
abbrev pub cost_checks : Edition → List ℕ → ℕ → Check
cost_checks e s room = table_checks (cost_form_at s 0) s then store_checks (cost_form e) (images_said s) (cost (table_said s) (images_said s)) room

-- 9, 1, 9, 11, 4, 20, 17 of the table that s begins with in a form, where no entry may be above the limit L
abbrev pub entry_checks : Form → ℕ → List ℕ → Check
entry_checks form L s = table_checks form s then fit_check L (cost (stored_table form (images_of form s) s) (images_of form s)) (images_of form s)

-- the bytes used in that form, and its bytes at the front of the lent ones
abbrev pub costs_converted : Edition → List ℕ → List ℕ → Outcome Written
costs_converted e s out = stored_if (cost_checks e s (length out)) (cost_form e) (images_said s) (table_said s) out

-- ## In words

-- the bytes begin with a stored cost table
abbrev pub Begins : List ℕ → Type 0
Begins s = table_checks (cost_form_at s 0) s ≡ Ok tt

-- every entry of it is within the limit of the form e
abbrev pub EntriesFit : Edition → List ℕ → Type 0
EntriesFit e s = (i j : ℕ) → i < images_said s → j < images_said s → cost (table_said s) (images_said s) i j ≤ (cost_form e).limit
