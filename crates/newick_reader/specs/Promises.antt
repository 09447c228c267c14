-- What the promise of the reader is worth. A call is seen from outside: the text t, its answer, and the two lent slices before, f and v, and after,
-- f' and v'. Assumes nothing.
use Rattle.std.specs.Prelude.{List, min, ℕ, length}
use Rattle.theory.specs.Outcomes.{LeftRows}
use Rattle.newick_reader.specs.Outcomes.{read_outcome, NewickTree}

-- the call for the text t answered r and left f' and v'
abbrev pub Answers : List ℕ → List ℕ → List ℕ → NewickTree → List ℕ → List ℕ → Type 0
Answers t f v r f' v' = LeftRows (read_outcome t f v) r f' v'

-- so many places are in each output
abbrev pub room : List ℕ → List ℕ → ℕ
room f v = min (length f) (length v)
