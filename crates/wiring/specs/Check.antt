-- The check that some wiring gives the table, by document 01's number.
use Rattle.std.specs.Prelude.{List, [], ◌∷◌, ℕ, ◌+◌, Ok, Err}
use Rattle.ground.specs.Refusals.{refusal, Check}
use Rattle.theory.specs.FourPoint.{Four, failing}

-- 7: no wiring, at the first i ≤ j ≤ k ≤ l that fails, in dictionary order
abbrev pub first_four : List Four → Check
first_four [] = Ok tt
first_four (q ∷ l) = Err (refusal 7 (q.first + 1) (q.second + 1) (q.third + 1) (q.fourth + 1))

abbrev pub wiring_check : (ℕ → ℕ → ℕ) → ℕ → Check
wiring_check d n = first_four (failing d n)
