-- Writing a stored link table in a form: the checks in order, and the outcome. N is the row count, l the far sides, v the doubled costs. Assumes nothing.
use Rattle.std.specs.Prelude.{Bool, List, ℕ, ◌*◌, ◌≤◌, ltb, get_or, length}
use Rattle.ground.specs.Refusals.{places_if, room_check, ◌then◌, Check, Written}
use Rattle.ground.specs.Outcomes.{Outcome, front_if}
use Rattle.theory.specs.Tables.{limit}
use Rattle.links.specs.Checks.{row_checks, size_checks}
use Rattle.links.specs.FirstChecks.{first_check}
use Rattle.link_forms.specs.Form.{link_bytes, link_used}
use Rattle.link_forms.specs.Sizes.{Small}
use Rattle.bits.specs.declared.Form.{Form}

-- row k has a cost above twice the limit L
abbrev pub large : ℕ → List ℕ → ℕ → Bool
large L v k = ltb (2 * L) (get_or v k 0)

-- 17: a cost above twice the form's limit, at the lowest row
abbrev pub fit_check : ℕ → List ℕ → Check
fit_check L v = first_check 17 (large L v) (length v)

-- 17, 3: of rows as many as counted, room counting exact bytes
abbrev pub store_checks : Form → ℕ → List ℕ → List ℕ → ℕ → Check
store_checks form n l v room = fit_check form.limit v then room_check (link_used form n (length l)) room

-- 12, 13, 17, 3
abbrev pub fit_checks : Form → ℕ → List ℕ → List ℕ → ℕ → Check
fit_checks form n l v room = row_checks limit n l v then store_checks form n l v room

-- 1, 10, 2, 12, 13, 17, 3
abbrev pub write_checks : Form → ℕ → ℕ → List ℕ → List ℕ → ℕ → Check
write_checks form n N l v room = (size_checks n N l v then row_checks limit n l v) then store_checks form n l v room

-- by the check: the bytes used, and the form's bytes at the front of the lent ones
abbrev pub stored_if : Check → Form → ℕ → List ℕ → List ℕ → List ℕ → Outcome Written
stored_if c form n l v out = record { answer = places_if c (link_used form n (length l)); places = front_if c (link_bytes form n l v) out }

-- of a link table
abbrev pub store_outcome : Form → ℕ → List ℕ → List ℕ → List ℕ → Outcome Written
store_outcome form n l v out = stored_if (store_checks form n l v (length out)) form n l v out

-- of any rows
abbrev pub write_outcome : Form → ℕ → ℕ → List ℕ → List ℕ → List ℕ → Outcome Written
write_outcome form n N l v out = stored_if (write_checks form n N l v (length out)) form n l v out

-- ## What the raw writer is given

-- numbers so small that nothing overflows, and room for the whole bytes of N rows
pub record RoomFor (form : Form) (n N room : ℕ) : Type 0 where
  pub small : Small form n N
  pub fits : link_used form n N ≤ room
