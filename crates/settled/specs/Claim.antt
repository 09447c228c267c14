-- The one claim: what each settled example says is so. Everything is computed from the definitions; that the rows are the exact
-- reading follows by the law that no other table is. Assumes nothing.
use Rattle.std.specs.Prelude.{not, List, [], map, refl, ◌≡◌, suc, ℕ, ◌≤◌, eqb, leb, Ok, Err}
use Rattle.std.proofs.Common.{sym, arith, eqb-true, leb-false}
use Rattle.std.specs.Int.Count.{ones, ones_in}
use Rattle.std.proofs.lemmas.Bool.{not-false}
use Rattle.ground.specs.Filters.{Each, filter}
use Rattle.ground.specs.Laws.Filters.{each_cons, each_nil, none_in}
use Rattle.ground.specs.Laws.Ranges.{mem-from}
use Rattle.ground.specs.Least.{least_on}
use Rattle.ground.specs.Lowest.{check_all}
use Rattle.ground.specs.Members.{occurs}
use Rattle.ground.specs.Ranges.{from}
use Rattle.ground.specs.Refusals.{refusal}
use Rattle.theory.proofs.Demands.{exact_reading}
use Rattle.theory.proofs.Demands as demands
use Rattle.theory.specs.FourPoint.{failing}
use Rattle.theory.specs.Index.{shifted}
use Rattle.theory.specs.LinkTables.{Row, fars}
use Rattle.theory.specs.Order.{AnOrder, closed, grow, next}
use Rattle.theory.specs.OrderRules.{counted_from0}
use Rattle.theory.specs.Readings.{Exact}
use Rattle.theory.specs.Tables.{CostTable, limit}
use Rattle.tables.proofs.Laws.Formed.{cost-table}
use Rattle.counts.specs.Differ.{differ}
use Rattle.settled.specs.Examples.{example_a, example_b, example_c, example_d, example_e, example_eg, example_f, example_g, example_h, order_h, ring_h, settled}
use Rattle.settled.specs.Settled.{Holds, Settled, around, compared, ordered, reads, refused, rows_read, shortest, table_checks, untimed}
use Rattle.settled.specs.Triangles.{square, table}
use Rattle.wiring.specs.Check.{wiring_check}

-- what is computed of an example, and that it is enough
abbrev pub Accepted : ℕ → List ℕ → Type 0
Accepted n t = (table_checks n t ≡ Ok tt) × (failing (table n t) n ≡ [])

abbrev pub Computed : Settled → Type 0
Computed (reads n t T) = Accepted n t × (rows_read n t ≡ T)
Computed (refused n t i j k l T) =
    (table_checks n t ≡ Ok tt) × (wiring_check (table n t) n ≡ Err (refusal 7 i j k l)) × (rows_read n t ≡ T)
Computed (untimed n t i j) = table_checks n t ≡ Err (refusal 20 i j 0 0)
Computed (ordered n t first last l s) =
    (table_checks n t ≡ Ok tt) × (map suc (around n t first last) ≡ l) × (closed (table n t) (around n t first last) ≡ s)
Computed (shortest n t l s) =
    Accepted n t × (filter (λ i. leb n i) (counted_from0 l) ≡ []) × (filter (λ i. not (eqb (occurs i (counted_from0 l)) 1)) (from 0 n) ≡ [])
    × (closed (table n t) (counted_from0 l) ≡ s) × (s ≡ closed (table n t) (around n t 1 2))
Computed (compared n t u x) = Accepted n t × Accepted n u × (differ n (fars (rows_read n t)) (fars (rows_read n u)) ≡ x)
