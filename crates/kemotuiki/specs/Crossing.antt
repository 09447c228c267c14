-- The outcome of a call with its answer turned into numbers, and the lent slices as the call leaves them. Assumes nothing.
use Rattle.ground.specs.Outcomes.{Outcome}
use Rattle.theory.specs.Outcomes.{RowsOutcome}
use Rattle.levels.specs.Outcome.{LevelsOutcome}
use Rattle.report.specs.Outcome.{ReportOutcome}

-- the answer in numbers, and the lent places as they are left
abbrev pub crossed : {A K : Type 0} → (A → K) → Outcome A → Outcome K
crossed numbers o = record { answer = numbers o.answer; places = o.places }

-- the same of a call with two lent slices
abbrev pub crossed_rows : {A K : Type 0} → (A → K) → RowsOutcome A → RowsOutcome K
crossed_rows numbers o = record { answer = numbers o.answer; far_list = o.far_list; cost_list = o.cost_list }

-- and of the reading of levels, whose two have groups and heights
abbrev pub crossed_levels : {A K : Type 0} → (A → K) → LevelsOutcome A → LevelsOutcome K
crossed_levels numbers o = record { answer = numbers o.answer; group_list = o.group_list; height_list = o.height_list }

-- and of the report, which has three
abbrev pub crossed_report : {A K : Type 0} → (A → K) → ReportOutcome A → ReportOutcome K
crossed_report numbers o =
    record { answer = numbers o.answer; far_list = o.far_list; tree_list = o.tree_list; sum_list = o.sum_list }
