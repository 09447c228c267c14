-- The demands of the two readings and of the order, each as one theorem: what a reader of the demands looks for, and what the
-- crates above cite. Assumes nothing.
use mathlib.Core.List.{List, Memᴰ, [], ◌++◌, ◌∷◌}
use Rattle.std.specs.Prelude.{◌↔◌, ◌≡◌, suc, zero, ℕ, ◌*◌, ◌+◌, ◌-◌, ◌<◌, ◌≤◌, get_or, length}
use Rattle.std.proofs.Common.{arith}
use Rattle.std.proofs.lemmas.List.{length-map}
use Rattle.ground.specs.Bits.{bit}
use Rattle.ground.specs.Filters.{Each}
use Rattle.theory.specs.FarSides.{FarSide, own}
use Rattle.theory.specs.FourPoint.{FourPoint, FourPointWithin, failing}
use Rattle.theory.specs.Index.{AtLeast, clipped}
use Rattle.theory.proofs.Laws.ClosedSum.{closed-sum}
use Rattle.theory.proofs.Laws.NoShorter.{shortest, shortest_within}
use Rattle.theory.proofs.Laws.OneTree.{measured_tree}
use Rattle.theory.proofs.Laws.OnlyOne.{exact_exists, exact_is}
use Rattle.theory.proofs.Laws.Paths.{meets_four_point}
use Rattle.theory.proofs.Laws.RingRuns.{drawn-run, far_runs}
use Rattle.theory.proofs.Laws.RowCount.{row_count}
use Rattle.theory.proofs.Laws.Sorted.{none_failing}
use Rattle.theory.proofs.Laws.Stable.{cost-near, measured-cost}
use Rattle.theory.proofs.Laws.Under.{measured_under}
use Rattle.theory.specs.Laws.NextLeft.{next-left}
use Rattle.theory.specs.Laws.Walk.{order-all}
use Rattle.theory.specs.LinkTables.{LinkTable, Row, all_costs, cost_of, far, fars, path}
use Rattle.theory.specs.Order.{AllOnce, AnOrder, closed, order}
use Rattle.theory.specs.OrderRules.{IsNext, OneRun}
use Rattle.theory.specs.Readings.{Exact, Near, measured}
use Rattle.theory.specs.Tables.{WellFormed}
use Rattle.ground.specs.Ascending.{Between}
use Rattle.ground.specs.Members.{place_of}
use Rattle.theory.proofs.Laws.Routes.{route_ends, upper-rows}
use Rattle.theory.specs.Routes.{route, uppers}
pub use Rattle.theory.specs.Demands.{OneTree, ExactReading, MeasuredReading, Stable, Ordered}

-- Every link table is one.
pub one_tree : (L n : ℕ) (T : List Row) → 3 ≤ n → LinkTable L n T → OneTree L n T
one_tree L zero T h t = absurd (omega arith)
one_tree L (suc k) T h t =
    let c = row_count L (suc k) T h t in
    let m = length-map T far in
    record {
      tree = t;
      least = c.0;
      most = c.1;
      above = λ p l. let u = (upper-rows L k T t).later p (omega (arith, m)) in (u.0, omega (arith, u.1, m));
      climbs = λ i l. rw (← m) (route_ends L k T t i l);
    }

-- ## Demand 2, of a well-formed table

pub exact_reading : (L : ℕ) (d : ℕ → ℕ → ℕ) (n : ℕ) → 2 ≤ n → WellFormed L d n → ExactReading L d n
exact_reading L d zero h c = absurd (omega arith)
exact_reading L d (suc zero) h c = absurd (omega arith)
exact_reading L d (suc (suc k)) h c =
    record {
      scanned = none_failing L d (suc (suc k)) c;
      accepted = exact_exists L d k c;
      answer = exact_is L d k c;
    }

-- ## The measured reading, of every well-formed table

pub measured_reading : (L : ℕ) (d : ℕ → ℕ → ℕ) (n : ℕ) → 3 ≤ n → WellFormed L d n → MeasuredReading L d n
measured_reading L d zero h c = absurd (omega arith)
measured_reading L d (suc zero) h c = absurd (omega arith)
measured_reading L d (suc (suc k)) h c = record {
  drawn = one_tree L (suc (suc k)) _ h (measured_tree L d k c);
  under = λ {i} {j} hi hj. measured_under L d (suc (suc k)) i j c hi hj;
  index = λ S f. measured-cost L d (suc (suc k)) S f;
}

-- ## Demand 3

pub stable : (L D : ℕ) (d e : ℕ → ℕ → ℕ) (n : ℕ) (T : List Row) → 3 ≤ n → WellFormed L d n → WellFormed L e n → Exact L d n T
    → Near D d e n → Stable L D e n T
stable L D d e n T h c c' x p = record { near = λ S f. cost-near L D d e n T c c' x p S f; reading = measured_reading L e n h c' }

-- ## The order around the tree, of every well-formed table

pub ordered : (L : ℕ) (d : ℕ → ℕ → ℕ) (n f last : ℕ) → WellFormed L d n → f < n → last < n → (f ≡ last → ⊥) → Ordered L d n f last
ordered L d n f last c hf hl ne = record {
  images = order-all d n f hf last hl ne;
  rule = next-left d n f hf last hl ne;
  runs = drawn-run L d n f last c hf hl ne;
  sums = λ T x. closed-sum L d n T c x f last hf hl ne;
  least = λ T x. shortest L d n f last hf hl ne c (meets_four_point L n T x.tree d x.meets);
  within = λ q. shortest_within L q d n f last hf hl ne c;
  far_runs = far_runs L d n f last c hf hl ne;
}
