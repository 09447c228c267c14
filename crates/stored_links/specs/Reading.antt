-- Reading a stored link table: the checks in document 01's order. Assumes nothing.
use Rattle.std.specs.Prelude.{List, ℕ, ◌*◌, ◌+◌, ◌-◌, ◌/◌, drop}
use Rattle.ground.specs.Refusals.{room_check, ◌then◌, Check}
use Rattle.bits.specs.Kinds.{end_check, fill_check, position_check}
use Rattle.bits.specs.Forms.{bytes_for}
use Rattle.links.specs.Checks.{count_checks, row_checks}
use Rattle.link_forms.specs.Form.{link_used}
use Rattle.link_forms.specs.Said.{costs_of, count_of, fars_of, fill_of, images_of}
use Rattle.bits.specs.declared.Form.{Form}

-- 9, 1, 10
abbrev pub head_checks : Form → List ℕ → Check
head_checks form s = end_check s (bytes_for (form.head + 14)) then count_checks (images_of form s) (count_of form s)

-- 9, 11, 12, 13
abbrev pub body_checks : Form → ℕ → ℕ → List ℕ → Check
body_checks form n N s =
    end_check s (link_used form n N) then fill_check (fill_of form n N s) then row_checks form.limit n (fars_of form n N s) (costs_of form n N s)

-- 9, 1, 10, 3, 9, 11, 12, 13: with room for so many places in each output
abbrev pub read_checks : Form → List ℕ → ℕ → Check
read_checks form s room =
    head_checks form s then room_check (2 * images_of form s - 3) room then body_checks form (images_of form s) (count_of form s) s

-- the same without 3
abbrev pub table_checks : Form → List ℕ → Check
table_checks form s = head_checks form s then body_checks form (images_of form s) (count_of form s) s

-- 9 for the position, then those of the bytes from there on
abbrev pub read_at_checks : Form → List ℕ → ℕ → ℕ → Check
read_at_checks form bytes position room = position_check bytes position then read_checks form (drop (position / 8) bytes) room

-- the same without 3
abbrev pub table_at_checks : Form → List ℕ → ℕ → Check
table_at_checks form bytes position = position_check bytes position then table_checks form (drop (position / 8) bytes)
