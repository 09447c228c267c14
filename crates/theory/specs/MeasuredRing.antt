-- The ring of a table that is a little off: what is left of the demands of the order where no entry differs by more than D from one of
-- an accepted table. Assumes nothing.
use Rattle.std.specs.Prelude.{List, ◌≡◌, max, ℕ, ◌*◌, ◌+◌, ◌-◌, ◌<◌, ◌≤◌}
use Rattle.ground.specs.Filters.{Each}
use Rattle.theory.specs.FourPoint.{FourPoint}
use Rattle.theory.specs.LinkTables.{Row, all_costs}
use Rattle.theory.specs.Order.{AnOrder, closed, order}
use Rattle.theory.specs.OrderRules.{OneRun}
use Rattle.theory.specs.Readings.{Near}
use Rattle.theory.specs.Tables.{WellFormed}

-- d is the accepted table, T its tree, e the table that the order was made from, and ring that order, with f in front
pub record MeasuredRing (D : ℕ) (d e : ℕ → ℕ → ℕ) (n f : ℕ) (ring : List ℕ) (T : List Row) : Type 0 where
  -- no ring is shorter by more than 4 D for each image but three, by the one table or by the other
  pub measured : (l : List ℕ) → AnOrder n l → closed e ring ≤ closed e l + (n - 3) * (4 * D)
  pub accepted : (l : List ℕ) → AnOrder n l → closed d ring ≤ closed d l + (n - 3) * (4 * D)
  -- every far side of the tree with a doubled cost above 4 D is a run of neighbours on the closed ring
  pub far_runs : Each T (λ r. 4 * D < r.1 → OneRun r.0 f ring)
  -- what it costs by e is the sum of all doubled costs of the tree, than which no ring costs less by d, less n D at most, and more by
  -- 3 n - 8 times D at most, or by 3 D for three images
  pub told : (all_costs T ≤ closed e ring + n * D) × (closed e ring ≤ all_costs T + max n (3 * n - 8) * D)
  -- what any one ring costs by the two tables differs by no more than D for each of its n links
  pub sums : (l : List ℕ) → AnOrder n l → (closed d l ≤ closed e l + n * D) × (closed e l ≤ closed d l + n * D)

-- No smaller bound holds. Of n images: an accepted table d, a table e no entry of which differs by more than D, and a ring that is
-- shorter than the order's by 4 D for each image but three, by the one table and by the other.
pub record Reached (L D n : ℕ) : Type 0 where
  pub d : ℕ → ℕ → ℕ
  pub e : ℕ → ℕ → ℕ
  pub formed : WellFormed L d n × WellFormed L e n
  pub accepted : FourPoint d n
  pub near : Near D d e n
  pub first : ℕ
  pub last : ℕ
  pub images : (first < n) × (last < n) × (first ≡ last → ⊥)
  pub ring : List ℕ
  pub all : AnOrder n ring
  pub by_measured : closed e (order e n first last) ≡ closed e ring + (n - 3) * (4 * D)
  pub by_accepted : closed d (order e n first last) ≡ closed d ring + (n - 3) * (4 * D)
  -- by the one against the other
  pub told : closed e (order e n first last) ≡ closed d ring + (3 * n - 8) * D
