-- The checks of the next table, in document 02's order. Assumes nothing.
use Rattle.std.specs.Prelude.{Bool, false, not, List, [], ◌++◌, ◌∷◌, ℕ, eqb, ltb}
use Rattle.ground.specs.Refusals.{refusal, refuse_if, ◌then◌, Check}
use Rattle.cost_forms.specs.Form.{cost_form_at}
use Rattle.stored_costs.specs.Reading.{table_checks}
use Rattle.figures.specs.Figures.{sides_at}
use Rattle.figures.specs.Tables.{Table, table_at}

-- at most so many tables are read, and so many different far sides kept
abbrev pub most_tables : ℕ
most_tables = 500

abbrev pub most_sides : ℕ
most_sides = 1024

-- 9, 1, 9, 11, 4, 20: the stored cost table's own without 3, of the bytes s, in the form that they tell
abbrev pub stored_checks : List ℕ → Check
stored_checks s = table_checks (cost_form_at s 0) s

-- 15: an n other than the first table's
abbrev pub differs : List Table → ℕ → Bool
differs [] n = false
differs (t ∷ ts) n = not (eqb n t.images)

abbrev pub same_check : List Table → ℕ → Check
same_check ts n = refuse_if (differs ts n) (refusal 15 0 0 0 0)

-- 19: a 1,025th far side
abbrev pub many_check : ℕ → List Table → Check
many_check L ts = refuse_if (ltb most_sides (sides_at L ts)) (refusal 19 0 0 0 0)

-- the checks of the table at the front of s, once ts were read
unfoldable pub next_check : ℕ → List Table → List ℕ → Check
next_check L ts s = stored_checks s then same_check ts (table_at s).images then many_check L (ts ++ (table_at s ∷ []))
