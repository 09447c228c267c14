-- The greatest and the least indices that are reached, and settled examples; all are computed. Assumes nothing.
use Rattle.ground.specs.Refusals.{SignedAnswer}
use Rattle.std.specs.Prelude.{List, map, ℕ}
use Rattle.theory.specs.Tables.{limit}
use Rattle.index.specs.Call.{index_answer}

-- what the call answers for each of these far sides
abbrev pub answers : ℕ → List ℕ → List ℕ → List SignedAnswer
answers n t l = map (index_answer limit n t) l
