-- The demands of the two readings and of the order, each as one theorem: what a reader of the demands looks for, and what the
-- crates above cite. Assumes nothing.
use mathlib.Core.List.{List, Memᴰ, [], ◌++◌, ◌∷◌}
use Rattle.std.specs.Prelude.{◌↔◌, ◌≡◌, suc, ℕ, ◌*◌, ◌+◌, ◌-◌, ◌<◌, ◌≤◌, get_or, length}
use Rattle.ground.specs.Bits.{bit}
use Rattle.ground.specs.Filters.{Each}
use Rattle.theory.specs.FarSides.{FarSide, own}
use Rattle.theory.specs.FourPoint.{FourPoint, FourPointWithin, failing}
use Rattle.theory.specs.Index.{AtLeast, clipped}
use Rattle.theory.specs.LinkTables.{LinkTable, Row, all_costs, cost_of, fars, path}
use Rattle.theory.specs.Order.{AllOnce, AnOrder, closed, order}
use Rattle.theory.specs.OrderRules.{IsNext, OneRun}
use Rattle.theory.specs.Readings.{Exact, measured}
use Rattle.ground.specs.Ascending.{Between}
use Rattle.ground.specs.Members.{place_of}
use Rattle.theory.specs.Routes.{route, uppers}

-- A link table, as many rows as a tree has, and all of them hang together, rows being numbered from 1: the drawn links form one tree.
pub record OneTree (L n : ℕ) (T : List Row) : Type 0 where
  pub tree : LinkTable L n T
  pub least : n ≤ length T
  pub most : length T + 3 ≤ 2 * n
  -- every row but the last has an upper row, and it is a later one
  pub above : (p : ℕ) → suc p < length T → (suc p < get_or (uppers (fars T)) p 0) × (get_or (uppers (fars T)) p 0 ≤ length T)
  -- the route of every image climbs strictly from its own link and holds the last row, so it ends there
  pub climbs : (i : ℕ) → i < n
      → Between (place_of 1 (own n i) (fars T)) (route n (fars T) i) (suc (length T)) × Memᴰ (length T) (route n (fars T) i)

pub record ExactReading (L : ℕ) (d : ℕ → ℕ → ℕ) (n : ℕ) : Type 0 where
  -- no four images in ascending order fail exactly when the four-point condition holds
  pub scanned : (failing d n ≡ []) ↔ FourPoint d n
  -- the condition holds exactly when some link table has path costs equal to twice the entries
  pub accepted : FourPoint d n ↔ ((T : List Row) × Exact L d n T)
  -- the answer is that table: only one exists, and on an accepted table both readings agree
  pub answer : (T : List Row) → FourPoint d n → Exact L d n T ↔ (T ≡ measured L d n)

pub record MeasuredReading (L : ℕ) (d : ℕ → ℕ → ℕ) (n : ℕ) : Type 0 where
  -- the drawn links always form one tree
  pub drawn : OneTree L n (measured L d n)
  -- no path cost in it is above twice the entry
  pub under : {i j : ℕ} → i < n → j < n → path (measured L d n) i j ≤ 2 * d i j
  -- it gives every division its index, or 0 where that is negative
  pub index : (S : ℕ) → FarSide n S → cost_of (measured L d n) S ≡ clipped L d n (bit S)

-- of an accepted table with the tree T, and of a second table e, no entry differing by more than D
pub record Stable (L D : ℕ) (e : ℕ → ℕ → ℕ) (n : ℕ) (T : List Row) : Type 0 where
  -- for each division the doubled cost that the second's measured reading gives it and the one in T differ by at most 4 D,
  -- an absent link counting as zero
  pub near : (S : ℕ) → FarSide n S
      → (cost_of T S ≤ cost_of (measured L e n) S + 4 * D) × (cost_of (measured L e n) S ≤ cost_of T S + 4 * D)
  -- the drawn links form one tree, and no path cost in it is above twice the second's entry
  pub reading : MeasuredReading L e n

pub record Ordered (L : ℕ) (d : ℕ → ℕ → ℕ) (n f last : ℕ) : Type 0 where
  -- all images once, first and last at the ends
  pub images : AllOnce n f last (order d n f last)
  -- built from the end: wherever w stands to the left of x, behind first, it is the one not yet placed, other than first, with the least
  -- d(x,w) - d(first,w), the lowest number on a tie
  pub rule : (a : List ℕ) (w x : ℕ) (l : List ℕ) → order d n f last ≡ f ∷ (a ++ (w ∷ x ∷ l)) → IsNext d f x (x ∷ l) n w
  -- every division with index above 0 is a run of neighbours on the ring
  pub runs : (S : ℕ) → FarSide n S → AtLeast d n (bit S) 1 → OneRun S f (order d n f last)
  -- on an accepted table the closed sum is the sum of all doubled costs
  pub sums : (T : List Row) → Exact L d n T → closed d (order d n f last) ≡ all_costs T
  -- no ring is shorter: on an accepted table the closed sum is the least over all orders of the images
  pub least : (T : List Row) → Exact L d n T → (l : List ℕ) → AnOrder n l → closed d (order d n f last) ≤ closed d l
  -- on any other none is by more than q for each image but three, where no four images fail by more than q
  pub within : (q : ℕ) → FourPointWithin q d n → (l : List ℕ) → AnOrder n l → closed d (order d n f last) ≤ closed d l + (n - 3) * q
  -- every far side of an accepted table's tree, an own link of cost 0 as well, is a run of neighbours on the closed ring
  pub far_runs : (T : List Row) → Exact L d n T → Each T (λ r. OneRun r.0 f (order d n f last))
