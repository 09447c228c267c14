-- Demand 1 of one exported call: it is refused by a fixed number in a fixed order, and a refused call alters no place in a lent buffer.
-- Assumes nothing.
use mathlib.Core.List.{List, Memᴰ}
use Rattle.std.specs.Prelude.{◌↔◌, ◌⊎◌, ◌≡◌, ℕ}
use Rattle.ground.specs.Filters.{Each}
use Rattle.ground.specs.InOrder.{Own}
use Rattle.ground.specs.Steps.{FirstRefused, Passes, Step, numbers_of}
use Rattle.ground.specs.declared.Refusal.{Refusal}
use Rattle.numbers.specs.Heads.{refused}
use Rattle.numbers.specs.declared.KemotuikiHead.{KemotuikiHead}

-- the call's answer has the head r; l are the numbers that it refuses by, in document 01's order, and steps its checks;
-- before and after are what the lent buffers hold
pub record Refusals (l : List (ℕ × ℕ)) (steps : List Step) (r : KemotuikiHead) (before after : List (List ℕ)) : Type 0 where
  -- the checks run in the order of l, each refusing by its own number alone, which is not 0
  pub in_order : numbers_of steps ≡ l
  pub own : Each steps Own
  -- number 0 exactly where every check passed
  pub accepted : (r.number ≡ 0) ↔ Passes steps
  -- the first check that refuses gives the head, its table's number beside its own and the places, and every lent buffer is as it was
  pub first : (s : Step) (q : Refusal) → FirstRefused steps s q → (r ≡ refused s.table q) × (r.number ≡ s.number) × (after ≡ before)
  -- there is no third way
  pub one_of : (r.number ≡ 0) ⊎ (Memᴰ (r.table, r.number) l × (after ≡ before))
