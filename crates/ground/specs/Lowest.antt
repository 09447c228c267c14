-- Checks of places one after another: the lowest place that is refused is the answer. Assumes nothing.
use Rattle.std.specs.Prelude.{◌≡◌, suc, zero, ℕ, ◌+◌, ◌<◌, ◌≤◌, Ok, Err}
use Rattle.ground.specs.Refusals.{◌then◌, Check}
use Rattle.ground.specs.declared.Refusal.{Refusal}

-- the checks f i, f (i + 1), .., m of them
unfoldable pub check_all : (ℕ → Check) → ℕ → ℕ → Check
check_all f i zero = Ok tt
check_all f i (suc m) = f i then check_all f (suc i) m

-- refused: by the check of one place, all those below it having passed
pub record LowestRefused (f : ℕ → Check) (i m : ℕ) (r : Refusal) : Type 0 where
  pub place : ℕ
  pub least : i ≤ place
  pub most : place < i + m
  pub refused : f place ≡ Err r
  pub below : (k : ℕ) → i ≤ k → k < place → f k ≡ Ok tt
