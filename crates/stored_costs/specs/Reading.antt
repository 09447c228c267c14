-- Reading a stored cost table: the checks in document 01's order. Assumes nothing.
use Rattle.std.specs.Prelude.{List, ℕ, ◌*◌, ◌+◌, ◌/◌, drop}
use Rattle.ground.specs.Refusals.{room_check, ◌then◌, Check}
use Rattle.theory.specs.Checks.{images_check}
use Rattle.tables.specs.Checks.{entry_check, least_check, off_diagonal_check}
use Rattle.tables.specs.Pairs.{pairs_check}
use Rattle.bits.specs.Forms.{bytes_for}
use Rattle.bits.specs.Kinds.{end_check, fill_check, position_check}
use Rattle.cost_forms.specs.Entries.{entry_cost}
use Rattle.cost_forms.specs.Form.{cost_used}
use Rattle.cost_forms.specs.Said.{entry_of, fill_of, images_of}
use Rattle.bits.specs.declared.Form.{Form}

-- 4: an entry above the limit, at the lowest row and column with row below column
abbrev pub stored_check : ℕ → (ℕ → ℕ → ℕ) → ℕ → Check
stored_check L d n = pairs_check (entry_check L d) n

-- 4, and 20 where two images cost less than the least, at one pair
abbrev pub value_check : ℕ → ℕ → (ℕ → ℕ → ℕ) → ℕ → ℕ → Check
value_check K L d i j = entry_check L d i j then least_check K d i j

-- ## In order

-- 9, 1, 3
abbrev pub start_checks : Form → List ℕ → ℕ → Check
start_checks form s room = end_check s (bytes_for (form.head + 7)) then images_check (images_of form s) then room_check (images_of form s * images_of form s) room

-- 9, 11
abbrev pub body_checks : Form → ℕ → List ℕ → Check
body_checks form n s = end_check s (cost_used form n) then fill_check (fill_of form n s)

-- 4, 20
abbrev pub values_check : ℕ → (ℕ → ℕ → ℕ) → ℕ → Check
values_check L d n = stored_check L d n then off_diagonal_check d n

-- 9, 1, 3, 9, 11, 4, 20
abbrev pub read_checks : Form → List ℕ → ℕ → Check
read_checks form s room =
    start_checks form s room then body_checks form (images_of form s) s then values_check form.limit (entry_cost (entry_of form s) (images_of form s))
    (images_of form s)

-- 9, 1, 9, 11, 4, 20: the same without 3
abbrev pub table_checks : Form → List ℕ → Check
table_checks form s =
    end_check s (bytes_for (form.head + 7)) then images_check (images_of form s) then body_checks form (images_of form s) s
    then values_check form.limit (entry_cost (entry_of form s) (images_of form s)) (images_of form s)

-- 9 for the position, then those of the bytes from there on
abbrev pub read_at_checks : Form → List ℕ → ℕ → ℕ → Check
read_at_checks form bytes position room = position_check bytes position then read_checks form (drop (position / 8) bytes) room
