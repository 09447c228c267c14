-- A check of many places: the first that fails is refused. Assumes nothing.
use Rattle.std.specs.Prelude.{Bool, ℕ, ◌+◌, ltb}
use Rattle.ground.specs.First.{first}
use Rattle.ground.specs.Refusals.{refusal, refuse_if, Check}

-- refused where the test holds at some place below N, with the first such place, counted from 1
abbrev pub first_check : ℕ → (ℕ → Bool) → ℕ → Check
first_check m bad N = refuse_if (ltb (first bad N) N) (refusal m (first bad N + 1) 0 0 0)
