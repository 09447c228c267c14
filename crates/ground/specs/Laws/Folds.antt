-- How a loop that counts up meets the definition of what it carries. Assumes nothing.
use Rattle.std.specs.Prelude.{refl, ◌≡◌, ℕ, ◌+◌, ◌≤◌}
use Rattle.std.proofs.Common.{add-one, arith}
use Rattle.ground.specs.Folds.{fold}

-- ## The loop: before it, one turn, after it

pub fold_none : (step : ℕ → ℕ → ℕ) (acc : ℕ) → acc ≡ fold step 0 acc
unfolding fold
fold_none step acc = refl

pub fold_more : (step : ℕ → ℕ → ℕ) (n acc b r : ℕ) → b ≡ fold step n acc → r ≡ step n b → r ≡ fold step (n + 1) acc
unfolding fold
fold_more step n acc b r e f = rw (add-one, ← e) f

pub fold_end : (step : ℕ → ℕ → ℕ) (i n acc b : ℕ) → i ≤ n → n ≤ i → b ≡ fold step i acc → b ≡ fold step n acc
fold_end step i n acc b l g e = let q : i ≡ n = omega arith in rw (← q) e
