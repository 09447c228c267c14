-- The checks of a stored link table by their numbers. Assumes nothing.
use Rattle.std.specs.Prelude.{List, ◌++◌, ◌∷◌, ℕ, ◌*◌, ◌+◌, ◌-◌, ◌/◌, drop}
use Rattle.ground.specs.Refusals.{room_check}
use Rattle.ground.specs.Steps.{Step, ◌by◌}
use Rattle.bits.specs.Forms.{bytes_for}
use Rattle.bits.specs.Kinds.{end_check, fill_check, position_check}
use Rattle.bits.specs.declared.Form.{Form}
use Rattle.links.specs.InOrder.{count_steps, row_steps}
use Rattle.link_forms.specs.Form.{link_used}
use Rattle.link_forms.specs.Said.{costs_of, count_of, fars_of, fill_of, images_of}

-- 9, 1, 10
abbrev pub head_steps : Form → List ℕ → List Step
head_steps form s = 9 by end_check s (bytes_for (form.head + 14)) ∷ count_steps (images_of form s) (count_of form s)

-- 9, 11, 12, 13
abbrev pub body_steps : Form → ℕ → ℕ → List ℕ → List Step
body_steps form n N s =
    9 by end_check s (link_used form n N) ∷ 11 by fill_check (fill_of form n N s) ∷ row_steps form.limit n (fars_of form n N s) (costs_of form n N s)

-- 9, 1, 10, 9, 11, 12, 13
abbrev pub stored_steps : Form → List ℕ → List Step
stored_steps form s = head_steps form s ++ body_steps form (images_of form s) (count_of form s) s

-- 9, 1, 10, 3, 9, 11, 12, 13
abbrev pub read_steps : Form → List ℕ → ℕ → List Step
read_steps form s room = head_steps form s ++ (3 by room_check (2 * images_of form s - 3) room ∷ body_steps form (images_of form s) (count_of form s) s)

-- 9 of the position, then those of the bytes from there on
abbrev pub read_at_steps : Form → List ℕ → ℕ → ℕ → List Step
read_at_steps form bytes position room = 9 by position_check bytes position ∷ read_steps form (drop (position / 8) bytes) room
