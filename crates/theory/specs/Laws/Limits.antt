-- A lower limit allows no more tables. Assumes nothing.
use Rattle.std.specs.Prelude.{List, ℕ, ◌≤◌}
use Rattle.std.proofs.Common.{arith}
use Rattle.theory.specs.Tables.{CostTable, WellFormed, cost}

pub formed_wide : (L M : ℕ) (d : ℕ → ℕ → ℕ) (n : ℕ) → L ≤ M → WellFormed L d n → WellFormed M d n
formed_wide L M d n h c = record {
  small = λ {i} {j} hi hj. omega (arith, c.small {i = i} {j = j} hi hj);
  self = c.self;
  same = c.same;
  nonzero = c.nonzero;
}

pub table_wide : (L M n : ℕ) (t : List ℕ) → L ≤ M → CostTable L n t → CostTable M n t
table_wide L M n t h c = record { some = c.some; few = c.few; sized = c.sized; formed = formed_wide L M (cost t n) n h c.formed }
