-- Which events a replay took, what it has then, and how it ended. Assumes nothing.
use Rattle.std.specs.Prelude.{List, [], ◌++◌, ◌∷◌, ◌≡◌, ℕ, ◌+◌, ◌≤◌, length, Ok, Err}
use Rattle.ground.specs.declared.Refusal.{Refusal}
use Rattle.theory.specs.Readings.{Exact}
use Rattle.theory.specs.Tables.{WellFormed}
use Rattle.events.specs.Checks.{event_check}
use Rattle.leaving.specs.Replay.{Standing, after}

-- how a replay ended: with all events, or at the one that was refused
pub data Ended (k : ℕ) (taken left : List ℕ) (p : Standing) : Type 0 where
  all : left ≡ [] → p.stop ≡ Ok tt → p.event ≡ 0 → Ended k taken left p
  at : (e : ℕ) (es : List ℕ) (r : Refusal) → left ≡ e ∷ es → event_check p.images e ≡ Err r → p.stop ≡ Err r
      → p.event ≡ k + length taken → Ended k taken left p

-- a replay of es, numbered on from k, over n images from the table d
pub record Taken (L : ℕ) (d : ℕ → ℕ → ℕ) (k n : ℕ) (es : List ℕ) (p : Standing) : Type 0 where
  -- the events that were taken
  pub taken : List ℕ
  pub left : List ℕ
  pub is : es ≡ taken ++ left
  pub fewer : p.images + length taken ≡ n
  pub enough : 3 ≤ p.images
  -- the rows are the exact reading of the cost table after them
  pub formed : WellFormed L (after d taken) p.images
  pub exact : Exact L (after d taken) p.images p.rows
  pub ended : Ended k taken left p
