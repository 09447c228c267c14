-- The replay of a trace, in document 02's words: one number for each event, that of the image that leaves, counted from 1.
-- Assumes nothing.
use Rattle.std.specs.Prelude.{List, [], map, ◌∷◌, suc, ℕ, ◌%◌, ◌*◌, ◌-◌, ◌/◌, Ok, Err}
use Rattle.ground.specs.Ranges.{from}
use Rattle.ground.specs.Refusals.{if_passed, Check}
use Rattle.theory.specs.LinkTables.{Row}
use Rattle.mending.specs.Leaving.{leave, mend}
use Rattle.events.specs.Checks.{event_check}

-- where a replay stands: so many images, and these rows; the event that was refused, 0 where none was, and its refusal
pub record Standing : Type 0 where
  pub images : ℕ
  pub rows : List Row
  pub event : ℕ
  pub stop : Check

-- the events, numbered on from k, over n images with the rows T; a refusal ends the replay, and the rows before it stay
unfoldable pub replay : ℕ → ℕ → List Row → List ℕ → Standing
replay k n T [] = record { images = n; rows = T; event = 0; stop = (Ok tt) }
replay k n T (e ∷ es) =
    if_passed (λ r. record { images = n; rows = T; event = k; stop = Err r }) (event_check n e)
    (replay (suc k) (n - 1) (mend (n - 1) (e - 1) T) es)

-- ## The cost table that is left

-- after these events
unfoldable pub after : (ℕ → ℕ → ℕ) → List ℕ → ℕ → ℕ → ℕ
after d [] i j = d i j
after d (e ∷ es) i j = after (leave (e - 1) d) es i j

-- the costs of m images as m * m numbers, row by row
abbrev pub table_of : ℕ → (ℕ → ℕ → ℕ) → List ℕ
table_of m d = map (λ k. d (k / m) (k % m)) (from 0 (m * m))
