-- The checks of the report by their numbers, each with the number of the table that it is about: 0 for the room. Assumes nothing.
use Rattle.std.specs.Prelude.{List, [], ◌++◌, ◌∷◌, suc, zero, ℕ, ◌+◌, drop, length, Err}
use Rattle.ground.specs.Refusals.{Check}
use Rattle.ground.specs.Steps.{Step, about, of_table, ◌by◌}
use Rattle.ground.specs.declared.Refusal.{Refusal}
use Rattle.cost_forms.specs.Form.{cost_form_at}
use Rattle.stored_costs.specs.InOrder.{table_steps}
use Rattle.report.specs.Outcome.{refused_table, room_check}
use Rattle.figures.specs.Checks.{many_check, most_tables, same_check}
use Rattle.figures.specs.Reading.{Ended}
use Rattle.figures.specs.Tables.{Table, table_at}

-- 9, 1, 9, 11, 4, 20, 15, 19 of the table at the front of s, once ts were read
abbrev pub next_steps : ℕ → List Table → List ℕ → List Step
next_steps L ts s = table_steps (cost_form_at s 0) s ++ (15 by same_check ts (table_at s).images ∷ 19 by many_check L (ts ++ (table_at s ∷ [])) ∷ [])

-- table by table, numbered on, up to k more once ts were read
unfoldable pub steps_from : ℕ → ℕ → List Table → List ℕ → List Step
steps_from L zero ts s = []
steps_from L (suc k) ts [] = []
steps_from L (suc k) ts (b ∷ s) =
    about (length ts + 1) (next_steps L ts (b ∷ s)) ++ steps_from L k (ts ++ (table_at (b ∷ s) ∷ [])) (drop (table_at (b ∷ s)).used (b ∷ s))

-- 3 for the room, then table by table
abbrev pub report_steps : ℕ → List ℕ → ℕ → ℕ → ℕ → List Step
report_steps L bytes f t s = about 0 (3 by room_check f t s ∷ []) ++ steps_from L most_tables [] bytes

-- the table that was refused, and the refusal
abbrev pub Stop : Type 0
Stop = ℕ × Check

abbrev pub stop_at : ℕ → Refusal → Stop
stop_at k r = (k, Err r)

abbrev pub stop_of : Ended → Stop
stop_of e = (refused_table e.stop (length e.read), e.stop)

-- how many tables the bytes are cut into, each from where the one before ended, at most k
unfoldable pub tables_in : ℕ → List ℕ → ℕ
tables_in zero s = 0
tables_in (suc k) [] = 0
tables_in (suc k) (b ∷ s) = suc (tables_in k (drop (table_at (b ∷ s)).used (b ∷ s)))

abbrev pub table_numbers : ℕ → List (ℕ × ℕ)
table_numbers k = of_table k (9 ∷ 1 ∷ 9 ∷ 11 ∷ 4 ∷ 20 ∷ 15 ∷ 19 ∷ [])
