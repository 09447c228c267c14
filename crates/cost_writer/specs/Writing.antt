-- Writing a stored cost table in a form: the checks in order, and the outcome. Assumes nothing.
use Rattle.std.specs.Prelude.{List, ℕ, length}
use Rattle.ground.specs.Refusals.{places_if, room_check, ◌then◌, Check, Written}
use Rattle.ground.specs.Outcomes.{Outcome, front_if}
use Rattle.theory.specs.Tables.{cost, limit}
use Rattle.cost_forms.specs.Form.{cost_bytes, cost_used}
use Rattle.bits.specs.declared.Form.{Form}
use Rattle.cost_limits.specs.Checks.{fit_check, table_checks}

-- 17, 3: of a cost table, room counting exact bytes
abbrev pub store_checks : Form → ℕ → (ℕ → ℕ → ℕ) → ℕ → Check
store_checks form n d room = fit_check form.limit d n then room_check (cost_used form n) room

-- 1, 2, 4, 5, 6, 20, 17, 3
abbrev pub write_checks : Form → ℕ → List ℕ → ℕ → Check
write_checks form n t room = table_checks limit n t then store_checks form n (cost t n) room

-- by the check: the bytes used, and the form's bytes at the front of the lent ones
abbrev pub stored_if : Check → Form → ℕ → List ℕ → List ℕ → Outcome Written
stored_if c form n t out = record { answer = places_if c (cost_used form n); places = front_if c (cost_bytes form n (cost t n)) out }

abbrev pub write_outcome : Form → ℕ → List ℕ → List ℕ → Outcome Written
write_outcome form n t out = stored_if (write_checks form n t (length out)) form n t out
