-- What the promise of the order call says: what an accepted call wrote, that a refused one altered nothing, and that no second
-- answer meets it. Assumes nothing.
use Rattle.std.specs.Prelude.{List, ◌++◌, ◌∷◌, ◌≡◌, ℕ, ◌*◌, ◌+◌, ◌-◌, ◌≤◌, drop, get_or, length, take}
use Rattle.ground.specs.Bits.{bit}
use Rattle.ground.specs.Filters.{Each}
use Rattle.ground.specs.Members.{occurs}
use Rattle.theory.specs.FarSides.{FarSide}
use Rattle.theory.specs.FourPoint.{FourPointWithin}
use Rattle.theory.specs.Index.{AtLeast}
use Rattle.theory.specs.LinkTables.{Row, all_costs}
use Rattle.theory.specs.Order.{AnOrder, closed}
use Rattle.theory.specs.OrderRules.{IsNext, OneRun}
use Rattle.theory.specs.Readings.{Exact}
use Rattle.theory.specs.Tables.{cost}
use Rattle.order.specs.Outcome.{OrderAsked, counted, images}

-- the call found e₀ in the lent places and left e
pub record OrderLeft (L n : ℕ) (t : List ℕ) (first last : ℕ) (e₀ e : List ℕ) : Type 0 where
  pub asked : OrderAsked L n t first last (length e₀)
  -- the first n places hold the order, and the rest is as it was
  pub wrote : take n e ≡ images n t first last
  pub rest : drop n e ≡ drop n e₀
  pub size : length e ≡ length e₀
  -- all images once, first and last at the ends
  pub once : (i : ℕ) → 1 ≤ i → i ≤ n → occurs i (take n e) ≡ 1
  pub from : get_or e 0 0 ≡ first
  pub to : get_or e (n - 1) 0 ≡ last
  -- built from the end: each image is the one not yet placed, other than first, with the least d(x,w) - d(first,w), where x stands behind it;
  -- the lowest number on a tie
  pub rule : (a : List ℕ) (w x : ℕ) (l : List ℕ) → counted n e ≡ (first - 1) ∷ (a ++ (w ∷ x ∷ l)) → IsNext (cost t n) (first - 1) x (x ∷ l) n w
  -- every division with index above 0 is a run of neighbours
  pub runs : (S : ℕ) → FarSide n S → AtLeast (cost t n) n (bit S) 1 → OneRun S (first - 1) (counted n e)
  -- on an accepted table the closed sum is the sum of all doubled costs
  pub sums : (T : List Row) → Exact L (cost t n) n T → closed (cost t n) (counted n e) ≡ all_costs T
  -- no ring is shorter: on an accepted table the closed sum is the least over all orders of the images
  pub least : (T : List Row) → Exact L (cost t n) n T → (l : List ℕ) → AnOrder n l → closed (cost t n) (counted n e) ≤ closed (cost t n) l
  -- on any other none is by more than q for each image but three, where no four images fail by more than q
  pub within : (q : ℕ) → FourPointWithin q (cost t n) n → (l : List ℕ) → AnOrder n l → closed (cost t n) (counted n e) ≤ closed (cost t n) l + (n - 3) * q
  -- every far side of an accepted table's tree, an own link of cost 0 as well, is a run of neighbours on the closed ring
  pub far_runs : (T : List Row) → Exact L (cost t n) n T → Each T (λ r. OneRun r.0 (first - 1) (counted n e))
