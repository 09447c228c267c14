-- The one claim: what each settled example says is so. Everything is computed from the definitions; that the rows are the exact
-- reading follows by the law that no other table is. Assumes nothing.
use Rattle.std.specs.Prelude.{not, List, [], map, refl, ◌≡◌, suc, ℕ, ◌≤◌, eqb, leb, Ok}
use Rattle.std.proofs.Common.{sym, arith, eqb-true, leb-false}
use Rattle.std.specs.Int.Count.{ones, ones_in}
use Rattle.std.proofs.lemmas.Bool.{not-false}
use Rattle.ground.specs.Filters.{Each, filter}
use Rattle.ground.specs.Laws.Filters.{each_cons, each_nil, none_in}
use Rattle.ground.specs.Laws.Ranges.{mem-from}
use Rattle.ground.specs.Least.{least_on}
use Rattle.ground.specs.Lowest.{check_all}
use Rattle.ground.specs.Members.{occurs}
use Rattle.ground.specs.Ranges.{from}
use Rattle.ground.specs.Refusals.{refusal}
use Rattle.theory.proofs.Demands.{exact_reading}
use Rattle.theory.proofs.Demands as demands
use Rattle.theory.specs.FourPoint.{failing}
use Rattle.theory.specs.Index.{shifted}
use Rattle.theory.specs.LinkTables.{Row, fars}
use Rattle.theory.specs.Order.{AnOrder, closed, grow, next}
use Rattle.theory.specs.OrderRules.{counted_from0}
use Rattle.theory.specs.Readings.{Exact}
use Rattle.theory.specs.Tables.{CostTable, limit}
use Rattle.tables.proofs.Laws.Formed.{cost-table}
use Rattle.counts.specs.Differ.{differ}
use Rattle.settled.specs.Examples.{example_a, example_b, example_c, example_d, example_e, example_eg, example_f, example_g, example_h, order_h, ring_h, settled}
use Rattle.settled.specs.Settled.{Holds, Settled, around, compared, ordered, reads, refused, rows_read, shortest, table_checks, untimed}
use Rattle.settled.specs.Triangles.{square, table}
use Rattle.wiring.specs.Check.{wiring_check}
pub use Rattle.settled.specs.Claim.{Accepted, Computed}

is_table : (n : ℕ) (t : List ℕ) → table_checks n t ≡ Ok tt → CostTable limit n (square n t)
is_table n t e = (cost-table limit n (square n t)).0 e

-- rows of a table in which no four images fail are its exact reading
is_exact : (n : ℕ) (t : List ℕ) (T : List Row) → table_checks n t ≡ Ok tt → failing (table n t) n ≡ [] → rows_read n t ≡ T → Exact limit (table n t) n T
is_exact n t T e f m =
    let c = is_table n t e in
    let x = exact_reading limit (table n t) n (omega (arith, c.some)) c.formed in
    (x.answer T (x.scanned.0 f)).1 (sym m)

-- a list with no image beyond n, and no image below n that it holds not at all or more than once, is an order of the images
is_order : (n : ℕ) (l : List ℕ) → filter (λ i. leb n i) l ≡ [] → filter (λ i. not (eqb (occurs i l) 1)) (from 0 n) ≡ [] → AnOrder n l
is_order n l e f = record {
  range = λ i m. leb-false n i (none_in (λ i. leb n i) l e i m);
  once = λ i h. eqb-true (occurs i l) 1 (not-false (eqb (occurs i l) 1) (none_in (λ i. not (eqb (occurs i l) 1)) (from 0 n) f i (mem-from 0 n i (omega arith) (omega arith))));
}

-- of a table in which no four images fail, no ring is shorter than the order's, from image 1 with image 2 at the end
none_shorter : (n : ℕ) (t : List ℕ) → table_checks n t ≡ Ok tt → failing (table n t) n ≡ [] → (l : List ℕ) → AnOrder n l
    → closed (table n t) (around n t 1 2) ≤ closed (table n t) l
none_shorter n t e f =
    let c = is_table n t e in
    (demands.ordered limit (table n t) n 0 1 c.formed (omega (arith, c.some)) (omega (arith, c.some)) (λ z. omega arith)).least (rows_read n t) (is_exact n t (rows_read n t) e f refl)

computed : (x : Settled) → Computed x → Holds x
computed (reads n t T) p = (is_table n t p.0.0, is_exact n t T p.0.0 p.0.1 p.1, p.1)
computed (refused n t i j k l T) p = (is_table n t p.0, p.1, p.2)
computed (untimed n t i j) p = p
computed (ordered n t first last l s) p = (is_table n t p.0, p.1, p.2)
computed (shortest n t l s) p =
    (is_order n (counted_from0 l) p.1 p.2, p.3, λ m a. omega (arith, p.4, none_shorter n t p.0.0 p.0.1 m a))
computed (compared n t u x) p = (is_exact n t _ p.0.0 p.0.1 refl, is_exact n u _ p.1.0 p.1.1 refl, p.2)

pub claim : Each settled Holds
unfolding check_all shifted least_on ones ones_in next grow
claim =
    each_cons Holds example_a _ (computed example_a ((refl, refl), refl))
    (each_cons Holds example_b _ (computed example_b refl)
    (each_cons Holds example_c _ (computed example_c (refl, refl, refl))
    (each_cons Holds example_d _ (computed example_d ((refl, refl), refl))
    (each_cons Holds example_e _ (computed example_e ((refl, refl), refl))
    (each_cons Holds example_f _ (computed example_f (refl, refl, refl))
    (each_cons Holds example_g _ (computed example_g ((refl, refl), refl))
    (each_cons Holds example_eg _ (computed example_eg ((refl, refl), (refl, refl), refl))
    (each_cons Holds example_h _ (computed example_h ((refl, refl), refl))
    (each_cons Holds order_h _ (computed order_h (refl, refl, refl))
    (each_cons Holds ring_h _ (computed ring_h ((refl, refl), refl, refl, refl, refl)) (each_nil Holds)))))))))))
