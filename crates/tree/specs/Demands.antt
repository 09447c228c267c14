-- Demands 2 and 3 over what the calls answered and left in the lent slices, f' and v' after f and v. Demand 1, of every call, is in
-- kemotuiki/proofs/Demand1.antt. Assumes nothing.
use Rattle.ground.specs.Refusals.{Written}
use Rattle.std.specs.Prelude.{List, ◌↔◌, ◌≡◌, ℕ, ◌*◌, ◌+◌, ◌≤◌, Ok}
use Rattle.theory.specs.FarSides.{FarSide}
use Rattle.theory.specs.FourPoint.{FourPoint}
use Rattle.theory.specs.LinkTables.{Row, cost_of}
use Rattle.theory.specs.Readings.{Exact}
use Rattle.theory.specs.Tables.{cost}
use Rattle.tree.specs.Promises.{Drawn, ExactAnswer}

-- the call accepts exactly when the condition holds, and exactly when some link table has path costs equal to twice the entries:
-- the rows left are that table
pub record ExactlyWhen (L n : ℕ) (t f v : List ℕ) (r : Written) (f' v' : List ℕ) : Type 0 where
  pub by_condition : ((k : ℕ) × (r ≡ Ok k)) ↔ FourPoint (cost t n) n
  pub by_tree : ((k : ℕ) × (r ≡ Ok k)) ↔ ((T : List Row) × Exact L (cost t n) n T)
  pub answer : (k : ℕ) → r ≡ Ok k → ExactAnswer L n t f v k f' v'

-- T are the rows of an accepted table, U those drawn from a second table u, no entry differing by more than D
pub record Demand3 (L D n : ℕ) (u : List ℕ) (T U : List Row) : Type 0 where
  -- for each division the doubled costs in T and U differ by at most 4 D, an absent link counting as zero
  pub near : (S : ℕ) → FarSide n S → (cost_of T S ≤ cost_of U S + 4 * D) × (cost_of U S ≤ cost_of T S + 4 * D)
  -- U is one tree, no path cost in it is above twice the second's entry, and each division has its index there
  pub drawn : Drawn L n u U
