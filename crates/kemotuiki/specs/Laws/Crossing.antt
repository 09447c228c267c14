-- From what a call promises to what crosses. Assumes nothing.
use Rattle.std.specs.Prelude.{List, ◌≡◌, ℕ}
use Rattle.std.proofs.Common.{ap, ◌∙◌}
use Rattle.ground.specs.Outcomes.{Left, Outcome}
use Rattle.theory.specs.Outcomes.{LeftRows, RowsOutcome}
use Rattle.levels.specs.Outcome.{LeftLevels, LevelsOutcome}
use Rattle.report.specs.Outcome.{LeftReport, ReportOutcome}
use Rattle.kemotuiki.specs.Crossing.{crossed, crossed_levels, crossed_report, crossed_rows}

-- ## From what the call promises to what crosses

pub left-crossed : {A K : Type 0} (numbers : A → K) (o : Outcome A) {x : A} {r : K} {e : List ℕ}
    → Left o x e → r ≡ numbers x → Left (crossed numbers o) r e
left-crossed numbers o p q = record { answered = q ∙ ap numbers p.answered; left = p.left }

pub left-rows : {A K : Type 0} (numbers : A → K) (o : RowsOutcome A) {x : A} {r : K} {f v : List ℕ}
    → LeftRows o x f v → r ≡ numbers x → LeftRows (crossed_rows numbers o) r f v
left-rows numbers o p q = record { answered = q ∙ ap numbers p.answered; far-sides = p.far-sides; doubled = p.doubled }

pub left_levels : {A K : Type 0} (numbers : A → K) (o : LevelsOutcome A) {x : A} {r : K} {g v : List ℕ}
    → LeftLevels o x g v → r ≡ numbers x → LeftLevels (crossed_levels numbers o) r g v
left_levels numbers o p q = record { answered = q ∙ ap numbers p.answered; group-left = p.group-left; height-left = p.height-left }

pub left_report : {A K : Type 0} (numbers : A → K) (o : ReportOutcome A) {x : A} {r : K} {f t s : List ℕ}
    → LeftReport o x f t s → r ≡ numbers x → LeftReport (crossed_report numbers o) r f t s
left_report numbers o p q =
    record { answered = q ∙ ap numbers p.answered; far-sides = p.far-sides; tree_numbers = p.tree_numbers; cost_sums = p.cost_sums }
