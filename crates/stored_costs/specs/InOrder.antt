-- The checks of a stored cost table by their numbers. Assumes nothing.
use Rattle.std.specs.Prelude.{List, [], ◌∷◌, ℕ, ◌*◌, ◌+◌, ◌/◌, drop}
use Rattle.ground.specs.Refusals.{room_check}
use Rattle.ground.specs.Steps.{Step, ◌by◌}
use Rattle.theory.specs.Checks.{images_check}
use Rattle.tables.specs.Checks.{off_diagonal_check}
use Rattle.bits.specs.Forms.{bytes_for}
use Rattle.bits.specs.Kinds.{end_check, fill_check, position_check}
use Rattle.bits.specs.declared.Form.{Form}
use Rattle.cost_forms.specs.Entries.{entry_cost}
use Rattle.cost_forms.specs.Form.{cost_used}
use Rattle.cost_forms.specs.Said.{entry_of, fill_of, images_of}
use Rattle.stored_costs.specs.Reading.{stored_check}

-- 4, 20
abbrev pub values_steps : ℕ → (ℕ → ℕ → ℕ) → ℕ → List Step
values_steps L d n = 4 by stored_check L d n ∷ 20 by off_diagonal_check d n ∷ []

-- 9, 1, 3, 9, 11, 4, 20
abbrev pub read_steps : Form → List ℕ → ℕ → List Step
read_steps form s room =
    9 by end_check s (bytes_for (form.head + 7))
    ∷ 1 by images_check (images_of form s)
    ∷ 3 by room_check (images_of form s * images_of form s) room
    ∷ 9 by end_check s (cost_used form (images_of form s))
    ∷ 11 by fill_check (fill_of form (images_of form s) s)
    ∷ values_steps form.limit (entry_cost (entry_of form s) (images_of form s)) (images_of form s)

-- 9, 1, 9, 11, 4, 20
abbrev pub table_steps : Form → List ℕ → List Step
table_steps form s =
    9 by end_check s (bytes_for (form.head + 7))
    ∷ 1 by images_check (images_of form s)
    ∷ 9 by end_check s (cost_used form (images_of form s))
    ∷ 11 by fill_check (fill_of form (images_of form s) s)
    ∷ values_steps form.limit (entry_cost (entry_of form s) (images_of form s)) (images_of form s)

-- 9 of the position, then those of the bytes from there on
abbrev pub read_at_steps : Form → List ℕ → ℕ → ℕ → List Step
read_at_steps form bytes position room = 9 by position_check bytes position ∷ read_steps form (drop (position / 8) bytes) room
