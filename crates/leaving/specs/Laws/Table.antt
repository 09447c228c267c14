-- The cost table that is left, as numbers. Assumes nothing.
use Rattle.std.specs.Prelude.{List, map, ◌≡◌, suc, zero, ℕ, ◌%◌, ◌*◌, ◌+◌, ◌/◌, ◌<◌, ◌≤◌, get_or}
use Rattle.std.proofs.Common.{ap, ap₂, sym, ◌∙◌, arith}
use Rattle.std.proofs.Math.Arith.{digits_div, digits_lt, digits_mod}
use Rattle.std.proofs.lemmas.List.{length-map}
use Rattle.ground.specs.Laws.Ranges.{from-length}
use Rattle.ground.specs.Ranges.{from}
use Rattle.theory.specs.LinkTables.{Row}
use Rattle.theory.specs.Readings.{Exact}
use Rattle.theory.specs.Tables.{CostTable, WellFormed, cost}
use Rattle.leaving.specs.Replay.{table_of}

from_at : (g : ℕ → ℕ) (i n k : ℕ) → k < n → get_or (map g (from i n)) k 0 ≡ g (i + k)
from_at g i zero k h = absurd (omega arith)
from_at g i (suc n) zero h = let e : i ≡ i + 0 = omega arith in ap g e
from_at g i (suc n) (suc k) h = let e : suc i + k ≡ i + suc k = omega arith in from_at g (suc i) n k (omega arith) ∙ ap g e

module _ (m : ℕ) (d : ℕ → ℕ → ℕ) where
  -- its entries
  pub table-cost : (i j : ℕ) → i < m → j < m → cost (table_of m d) m i j ≡ d i j
  table-cost i j hi hj =
      let e : 0 + (i * m + j) ≡ i * m + j = omega arith in
      from_at (λ k. d (k / m) (k % m)) 0 (m * m) (i * m + j) (digits_lt hi hj) ∙ rw e (ap₂ d (digits_div i hj) (digits_mod i hj))

  -- it is a cost table, and has the exact reading of d
  pub table_formed : (L : ℕ) → 3 ≤ m → m ≤ 64 → WellFormed L d m → CostTable L m (table_of m d)
  table_formed L h g c = record {
    some = h;
    few = g;
    sized = length-map (from 0 (m * m)) _ ∙ from-length 0 (m * m);
    formed = record {
      small = λ {i} {j} hi hj. rw (table-cost i j hi hj) (c.small hi hj);
      self = λ {i} hi. table-cost i i hi hi ∙ c.self hi;
      same = λ {i} {j} hi hj. table-cost i j hi hj ∙ c.same hi hj ∙ sym (table-cost j i hj hi);
      nonzero = λ {i} {j} hi hj h. rw (table-cost i j hi hj) (c.nonzero hi hj h);
    };
  }

  pub table_exact : (L : ℕ) (T : List Row) → Exact L d m T → Exact L (cost (table_of m d) m) m T
  table_exact L T e = record {
    tree = e.tree;
    meets = record { meets = λ {i} {j} hi hj. e.meets.meets hi hj ∙ ap (λ (z : ℕ). 2 * z) (sym (table-cost i j hi hj)) };
  }
