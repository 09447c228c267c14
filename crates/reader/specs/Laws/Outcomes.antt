-- That no second answer meets a promise over two lent tables, as that of `first_two` and that of `two_costs`. Of the other promises,
-- that of `take_costs` is a `Left` and those of `take_links` and `first_links` are `LeftRows`, of which `left_once` of ground and
-- `left_rows_once` of theory say the same, the answer being the reader that is left beside what it answers; those of `new`,
-- `take_field` and `two_fields` are equations, of which `answer_once` of ground says it. Assumes nothing.
use Rattle.std.specs.Prelude.{List, ◌≡◌, ℕ}
use Rattle.reader.specs.Outcomes.{TwoLeft, TwoOutcome}
use Rattle.ground.specs.Laws.Outcomes.{answer_once}

pub two_left_once : {A : Type 0} {o : TwoOutcome A} {a b : A} {f g d e : List ℕ} → TwoLeft o a f d → TwoLeft o b g e → (a ≡ b) × (f ≡ g) × (d ≡ e)
two_left_once p q = (answer_once p.answered q.answered, answer_once p.first q.first, answer_once p.second q.second)
