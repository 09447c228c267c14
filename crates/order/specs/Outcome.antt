-- What the order call answers and leaves in the lent places, in document 01's words. Images are 1 to n here, as in the call.
-- Assumes nothing.
use Rattle.std.specs.Prelude.{Bool, ◌||◌, List, map, ◌≡◌, suc, ℕ, ◌-◌, ◌≤◌, eqb, length, take}
use Rattle.ground.specs.Outcomes.{Outcome, front_if}
use Rattle.ground.specs.Refusals.{outside, places_if, refusal, refuse_if, room_check, ◌then◌, Check, Written}
use Rattle.theory.specs.Order.{order}
use Rattle.theory.specs.OrderRules.{counted_from0}
use Rattle.theory.specs.Tables.{CostTable, cost}
use Rattle.tables.specs.Checks.{costs_check, size_check}

-- first or last is outside 1..n, or first = last
abbrev pub bad_ends : ℕ → ℕ → ℕ → Bool
bad_ends n first last = outside 1 n first || (outside 1 n last || eqb first last)

-- 8: such a first and last
abbrev pub ends_check : ℕ → ℕ → ℕ → Check
ends_check n first last = refuse_if (bad_ends n first last) (refusal 8 0 0 0 0)

-- 1, 2, then 3, then 4, 5, 6, 20, then 8
unfoldable pub order_checks : ℕ → ℕ → List ℕ → ℕ → ℕ → ℕ → Check
order_checks L n t first last room =
    size_check n t then room_check n room then costs_check L (cost t n) n then ends_check n first last

-- the images in the order, counted from 1
abbrev pub images : ℕ → List ℕ → ℕ → ℕ → List ℕ
images n t first last = map suc (order (cost t n) n (first - 1) (last - 1))

-- the images at the first n places of e, counted from 0 as the definitions of theory have them
abbrev pub counted : ℕ → List ℕ → List ℕ
counted n e = counted_from0 (take n e)

-- n places, and the order at the front of them; or the first refusal
abbrev pub order_outcome : ℕ → ℕ → List ℕ → ℕ → ℕ → List ℕ → Outcome Written
order_outcome L n t first last o = record {
  answer = places_if (order_checks L n t first last (length o)) n;
  places = front_if (order_checks L n t first last (length o)) (images n t first last) o;
}

-- what is accepted: a cost table, room for n places, and first and last two different images of 1 to n
pub record OrderAsked (L n : ℕ) (t : List ℕ) (first last room : ℕ) : Type 0 where
  pub table : CostTable L n t
  pub space : n ≤ room
  pub first_low : 1 ≤ first
  pub first_high : first ≤ n
  pub last_low : 1 ≤ last
  pub last_high : last ≤ n
  pub differ : first ≡ last → ⊥
