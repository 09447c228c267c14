-- Demand 1, call by call: "Each call takes every possible argument and ends. Bad counts, short buffers, entries out of range and damaged stored
-- tables are refused by a fixed number in a fixed order, and a refused call alters no place in a lent buffer." Here are the calls of src/lib.rt
-- over cost tables and link tables; those over stored tables are in Demand1Stored.antt. No call has a `requires`: each takes every argument
-- and ends. `Refusals` says the rest of what its contract promises, in this order: the numbers that the call refuses by, as documents 01 and 02
-- list them, with the table's number in front, 0 where there is one table; the steps, which name the check of each number (specs/InOrder.antt of the
-- call's crate); the head of the answer; the lent buffers before the call; and after it. Assumes nothing.
use Rattle.ground.specs.Refusals.{refused_in}
use Rattle.std.specs.Prelude.{List, [], ◌++◌, ◌∷◌, refl, ◌≡◌, ℕ, length, Err}
use Rattle.std.proofs.Common.{ap, ap₂, ◌∙◌}
use Rattle.ground.specs.Outcomes.{Left}
use Rattle.ground.specs.Ranges.{from, gather}
use Rattle.ground.specs.Steps.{of_table}
use Rattle.theory.specs.Outcomes.{LeftRows}
use Rattle.theory.specs.Tables.{limit}
use Rattle.index.specs.Call.{index_answer, index_check}
use Rattle.index.specs.InOrder.{index_steps}
use Rattle.index.proofs.InOrder.{index-order}
use Rattle.order.specs.InOrder.{order_steps}
use Rattle.order.proofs.InOrder.{order-order}
use Rattle.order.specs.Outcome.{order_checks, order_outcome}
use Rattle.routes.specs.InOrder.{path-order, path_steps, route-order, route_steps, upper-order, upper_steps}
use Rattle.routes.specs.Orders.{path_checks, route_checks, upper_checks}
use Rattle.routes.specs.Outcomes.{path_outcome, route_outcome, upper_outcome}
use Rattle.tree.specs.InOrder.{exact_steps, measured_steps}
use Rattle.tree.proofs.InOrder.{exact_order, measured-order, outcome_places, outcome_unaltered}
use Rattle.tree.specs.Readings.{exact_check, exact_outcome, measured_check, measured_outcome}
use Rattle.compare.specs.Call.{comparison}
use Rattle.compare.specs.InOrder.{compare_steps}
use Rattle.compare.proofs.InOrder.{compare_decides}
use Rattle.consensus.specs.Call.{consensus_outcome}
use Rattle.consensus.specs.InOrder.{consensus_steps}
use Rattle.consensus.proofs.InOrder.{consensus-answers, consensus_decides, consensus-numbers, consensus_unaltered}
use Rattle.numbers.specs.Numbers.{of_comparison, of_index, of_order, of_path, of_rows, of_shared}
use Rattle.numbers.specs.declared.KemotuikiComparison.{KemotuikiComparison}
use Rattle.numbers.specs.declared.KemotuikiIndex.{KemotuikiIndex}
use Rattle.numbers.specs.declared.KemotuikiOrder.{KemotuikiOrder}
use Rattle.numbers.specs.declared.KemotuikiPath.{KemotuikiPath}
use Rattle.numbers.specs.declared.KemotuikiRows.{KemotuikiRows}
use Rattle.kemotuiki.specs.Crossing.{crossed, crossed_rows}
use Rattle.kemotuiki.specs.Laws.Refusals.{by_check, by_left, by_rows, refusals}
use Rattle.kemotuiki.specs.Refusals.{Refusals}

-- ## Cost tables

pub index : (n : ℕ) (t : List ℕ) (s : ℕ) (r : KemotuikiIndex) → r ≡ of_index (index_answer limit n t s)
    → Refusals (of_table 0 (1 ∷ 2 ∷ 4 ∷ 5 ∷ 6 ∷ 20 ∷ 12 ∷ [])) (index_steps limit n t s) r.head [] []
index n t s r e =
    by_check (λ (k : KemotuikiIndex). k.head) of_index Err (λ q. refl) (index_check limit n t s) _ refl refl (index-order limit n t s) e
    (λ q p. refl)

pub order : (n : ℕ) (t : List ℕ) (first last : ℕ) (out out' : List ℕ) (r : KemotuikiOrder)
    → Left (crossed of_order (order_outcome limit n t first last out)) r out'
    → Refusals (of_table 0 (1 ∷ 2 ∷ 3 ∷ 4 ∷ 5 ∷ 6 ∷ 20 ∷ 8 ∷ [])) (order_steps limit n t first last (length out)) r.head (out ∷ []) (out' ∷ [])
order n t first last out out' r p =
    by_left (λ (k : KemotuikiOrder). k.head) of_order Err (λ q. refl) (order_checks limit n t first last (length out)) _ _ out refl refl
    (order-order limit n t first last (length out)) p

pub measured : (n : ℕ) (t f v f' v' : List ℕ) (r : KemotuikiRows) → LeftRows (crossed_rows of_rows (measured_outcome limit n t f v)) r f' v'
    → Refusals (of_table 0 (1 ∷ 2 ∷ 3 ∷ 4 ∷ 5 ∷ 6 ∷ 20 ∷ [])) (measured_steps limit n t (length f) (length v)) r.head (f ∷ v ∷ []) (f' ∷ v' ∷ [])
measured n t f v f' v' r p =
    let c = measured_check limit n t (length f) (length v) in
    by_rows (λ (k : KemotuikiRows). k.head) of_rows Err (λ q. refl) c _ (measured_outcome limit n t f v) f v refl refl
    (measured-order limit n t (length f) (length v)) (outcome_places c _ f v) (outcome_unaltered c _ f v) p

pub exact : (n : ℕ) (t f v f' v' : List ℕ) (r : KemotuikiRows) → LeftRows (crossed_rows of_rows (exact_outcome limit n t f v)) r f' v'
    → Refusals (of_table 0 (1 ∷ 2 ∷ 3 ∷ 4 ∷ 5 ∷ 6 ∷ 20 ∷ 7 ∷ [])) (exact_steps limit n t (length f) (length v)) r.head (f ∷ v ∷ []) (f' ∷ v' ∷ [])
exact n t f v f' v' r p =
    let c = exact_check limit n t (length f) (length v) in
    by_rows (λ (k : KemotuikiRows). k.head) of_rows Err (λ q. refl) c _ (exact_outcome limit n t f v) f v refl refl
    (exact_order limit n t (length f) (length v)) (outcome_places c _ f v) (outcome_unaltered c _ f v) p

-- by the second engine, whose contract is the same
pub exact_grafted : (n : ℕ) (t f v f' v' : List ℕ) (r : KemotuikiRows) → LeftRows (crossed_rows of_rows (exact_outcome limit n t f v)) r f' v'
    → Refusals (of_table 0 (1 ∷ 2 ∷ 3 ∷ 4 ∷ 5 ∷ 6 ∷ 20 ∷ 7 ∷ [])) (exact_steps limit n t (length f) (length v)) r.head (f ∷ v ∷ []) (f' ∷ v' ∷ [])
exact_grafted = exact

-- 1 with number 0, then each table's with its own
pub compare : (n : ℕ) (t u : List ℕ) (r : KemotuikiComparison) → r ≡ of_comparison (comparison limit n t u)
    → Refusals (of_table 0 (1 ∷ []) ++ (of_table 1 (2 ∷ 4 ∷ 5 ∷ 6 ∷ 20 ∷ 7 ∷ []) ++ of_table 2 (2 ∷ 4 ∷ 5 ∷ 6 ∷ 20 ∷ 7 ∷ []))) (compare_steps limit n t u) r.head [] []
compare n t u r e =
    refusals (λ (k : KemotuikiComparison). k.head) of_comparison refused_in (λ m q. refl) refl refl (compare_decides limit n t u) e
    (λ s q f. refl)

-- 1, 16, 2, 3 with number 0, then each table's with its own
pub consensus : (n m : ℕ) (t f v f' v' : List ℕ) (r : KemotuikiRows) → LeftRows (crossed_rows of_shared (consensus_outcome limit n m t f v)) r f' v'
    → Refusals (of_table 0 (1 ∷ 16 ∷ 2 ∷ 3 ∷ []) ++ gather (from 1 m) (λ k. of_table k (4 ∷ 5 ∷ 6 ∷ 20 ∷ 7 ∷ [])))
    (consensus_steps limit n m t (length f) (length v)) r.head (f ∷ v ∷ []) (f' ∷ v' ∷ [])
consensus n m t f v f' v' r p =
    refusals (λ (k : KemotuikiRows). k.head) of_shared refused_in (λ k q. refl) (consensus-numbers limit n m t (length f) (length v)) refl
    (consensus_decides limit n m t (length f) (length v)) (p.answered ∙ ap of_shared (consensus-answers limit n m t f v))
    (λ s q e. let u = consensus_unaltered limit n m t f v s q e in ap₂ (λ (g x : List ℕ). g ∷ x ∷ []) (p.far-sides ∙ u.0) (p.doubled ∙ u.1))

-- ## Link tables

pub path : (n N : ℕ) (f v : List ℕ) (i j : ℕ) (r : KemotuikiPath) → r ≡ of_path (path_outcome limit n N f v i j)
    → Refusals (of_table 0 (1 ∷ 10 ∷ 2 ∷ 12 ∷ 13 ∷ 8 ∷ [])) (path_steps limit n N f v i j) r.head [] []
path n N f v i j r e =
    by_check (λ (k : KemotuikiPath). k.head) of_path Err (λ q. refl) (path_checks limit n N f v i j) _ refl refl
    (path-order limit n N f v i j) e (λ q p. refl)

pub upper-rows : (n N : ℕ) (f v out out' : List ℕ) (r : KemotuikiRows) → Left (crossed of_rows (upper_outcome limit n N f v out)) r out'
    → Refusals (of_table 0 (1 ∷ 10 ∷ 2 ∷ 3 ∷ 12 ∷ 13 ∷ [])) (upper_steps limit n N f v (length out)) r.head (out ∷ []) (out' ∷ [])
upper-rows n N f v out out' r p =
    by_left (λ (k : KemotuikiRows). k.head) of_rows Err (λ q. refl) (upper_checks limit n N f v (length out)) _ _ out refl refl
    (upper-order limit n N f v (length out)) p

pub route : (n N : ℕ) (f v : List ℕ) (i : ℕ) (out out' : List ℕ) (r : KemotuikiRows) → Left (crossed of_rows (route_outcome limit n N f v i out)) r out'
    → Refusals (of_table 0 (1 ∷ 10 ∷ 2 ∷ 3 ∷ 12 ∷ 13 ∷ 8 ∷ [])) (route_steps limit n N f v i (length out)) r.head (out ∷ []) (out' ∷ [])
route n N f v i out out' r p =
    by_left (λ (k : KemotuikiRows). k.head) of_rows Err (λ q. refl) (route_checks limit n N f v i (length out)) _ _ out refl refl
    (route-order limit n N f v i (length out)) p
