-- What the order call left where its table is a little off. Assumes nothing.
use Rattle.ground.specs.Refusals.{Written}
use Rattle.std.specs.Prelude.{List, ◌≡◌, ℕ, ◌-◌, length, Ok}
use Rattle.ground.specs.Outcomes.{Left}
use Rattle.theory.specs.LinkTables.{Row}
use Rattle.theory.specs.MeasuredRing.{MeasuredRing}
use Rattle.theory.proofs.MeasuredRing.{measured_ring}
use Rattle.theory.specs.Order.{order}
use Rattle.theory.specs.Readings.{Exact, Near}
use Rattle.theory.specs.Tables.{WellFormed, cost}
use Rattle.order.proofs.Laws.Asked.{asked_ends}
use Rattle.order.specs.Laws.Counted.{back-suc}
use Rattle.order.specs.Outcome.{counted, order_outcome}
use Rattle.order.proofs.Promises.{order_wrote}

-- Where no entry differs by more than D from one of an accepted table d with the tree T, no ring is shorter than the one that was left
-- by more than 4 D for each image but three, by either table; every far side of T with a doubled cost above 4 D is one run on it; and
-- what it costs by t is the sum of all doubled costs of T, less n D or more by 3 n - 8 times D at most.
pub order-measured : (L n : ℕ) (t : List ℕ) (first last : ℕ) (e₀ : List ℕ) (r : Written) (e : List ℕ) (count : ℕ)
    → Left (order_outcome L n t first last e₀) r e → r ≡ Ok count
    → (D : ℕ) (d : ℕ → ℕ → ℕ) (T : List Row) → WellFormed L d n → Exact L d n T → Near D d (cost t n) n
    → MeasuredRing D d (cost t n) n (first - 1) (counted n e) T
order-measured L n t first last e₀ r e count p z D d T c x near =
    let w = (order_wrote L n t first last e₀ r e count p z).1 in
    let a = asked_ends L n t first last (length e₀) w.asked in
    rw (w.wrote, back-suc (order (cost t n) n (first - 1) (last - 1)))
    (measured_ring L D d (cost t n) n (first - 1) (last - 1) T c w.asked.table.formed x near a.0 a.1 a.2)
