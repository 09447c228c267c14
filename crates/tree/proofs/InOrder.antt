-- The checks of the two readings, and of one table where room is no question, by their numbers. Assumes nothing.
use Rattle.std.specs.Prelude.{List, refl, ◌≡◌, ℕ, ◌*◌, ◌-◌, length, Ok, Err}
use Rattle.std.proofs.Common.{arith}
use Rattle.ground.specs.InOrder.{InOrder}
use Rattle.ground.specs.Laws.InOrder.{join-order, refuse_order}
use Rattle.ground.specs.Refusals.{places_if, refusal, Check}
use Rattle.ground.specs.declared.Refusal.{Refusal}
use Rattle.theory.specs.LinkTables.{Row}
use Rattle.theory.specs.Tables.{cost}
use Rattle.tables.proofs.InOrder.{costs-order, length-order, size-order}
use Rattle.wiring.specs.InOrder.{wiring_order}
use Rattle.tree.specs.Exact.{table_check, tree_check}
use Rattle.tree.specs.Readings.{exact_check, measured_check, outcome, short}
pub use Rattle.tree.specs.InOrder.{measured_steps, exact_steps, tree_steps, table_steps}

pub measured-order : (L n : ℕ) (t : List ℕ) (f v : ℕ) → InOrder (measured_steps L n t f v) (measured_check L n t f v)
measured-order L n t f v =
    join-order (size-order n t) (join-order (refuse_order (short (2 * n - 3) f v) (refusal 3 0 0 0 0) (omega arith)) (costs-order L (cost t n) n))

pub exact_order : (L n : ℕ) (t : List ℕ) (f v : ℕ) → InOrder (exact_steps L n t f v) (exact_check L n t f v)
exact_order L n t f v = join-order (measured-order L n t f v) (wiring_order (cost t n) n)

pub tree_order : (L n : ℕ) (t : List ℕ) → InOrder (tree_steps L n t) (tree_check L n t)
unfolding tree_check
tree_order L n t = join-order (costs-order L (cost t n) n) (wiring_order (cost t n) n)

pub table-order : (L n : ℕ) (t : List ℕ) → InOrder (table_steps L n t) (table_check L n t)
unfolding table_check
table-order L n t = join-order (length-order n t) (tree_order L n t)

-- ## What a reading answers and leaves, by its check

pub outcome_places : (c : Check) (T : List Row) (f v : List ℕ) → (outcome c T f v).answer ≡ places_if c (length T)
outcome_places (Ok tt) T f v = refl
outcome_places (Err q) T f v = refl

pub outcome_unaltered : (c : Check) (T : List Row) (f v : List ℕ) (q : Refusal) → c ≡ Err q
    → ((outcome c T f v).far_list ≡ f) × ((outcome c T f v).cost_list ≡ v)
outcome_unaltered c T f v q e = rw e (refl, refl)
