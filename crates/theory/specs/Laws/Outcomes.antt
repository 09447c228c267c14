-- No second answer, and no second content of two lent slices, meets a promise. Assumes nothing.
use Rattle.std.specs.Prelude.{List, ◌≡◌, ℕ}
use Rattle.theory.specs.Outcomes.{LeftRows, RowsOutcome}
use Rattle.ground.specs.Laws.Outcomes.{answer_once}

-- no second answer, and no second content of the two slices, meets a promise
pub left_rows_once : {A : Type 0} {o : RowsOutcome A} {a b : A} {f g v w : List ℕ} → LeftRows o a f v → LeftRows o b g w → (a ≡ b) × (f ≡ g) × (v ≡ w)
left_rows_once p q = (answer_once p.answered q.answered, answer_once p.far-sides q.far-sides, answer_once p.doubled q.doubled)
