-- The check that the table has levels, by document 02's number.
use Rattle.std.specs.Prelude.{List, [], ◌∷◌, ℕ, ◌+◌, Ok, Err}
use Rattle.ground.specs.Refusals.{refusal, Check}
use Rattle.leveling.specs.ThreePoint.{Three, failing}

-- 21: no levels, at the first i ≤ j ≤ k that fails, in dictionary order
abbrev pub first_three : List Three → Check
first_three [] = Ok tt
first_three (q ∷ l) = Err (refusal 21 (q.first + 1) (q.second + 1) (q.third + 1) 0)

abbrev pub levels_check : (ℕ → ℕ → ℕ) → ℕ → Check
levels_check d n = first_three (failing d n)
