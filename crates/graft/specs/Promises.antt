-- What the second engine's promise is worth. It is the promise of `tree::exact`, word for word: so demand 2 holds of both engines, no
-- call tells them apart, and a caller who stands on the promise may take either. A call is seen from outside: its answer r, and the two
-- lent slices before, f and v, and after, f' and v'. Assumes nothing.
use Rattle.ground.specs.Refusals.{Written}
use Rattle.std.specs.Prelude.{true, List, ◌↔◌, ◌≡◌, suc, ℕ, ◌≤◌, length}
use Rattle.theory.specs.FourPoint.{FourPoint}
use Rattle.theory.specs.Laws.Outcomes.{left_rows_once}
use Rattle.theory.specs.Outcomes.{LeftRows}
use Rattle.theory.specs.Readings.{Exact}
use Rattle.theory.specs.Tables.{WellFormed}
use Rattle.tree.specs.Demands.{ExactlyWhen}
use Rattle.tree.proofs.Demands.{exactly_when}
use Rattle.tree.specs.Readings.{exact_outcome}
use Rattle.tree.specs.Writing.{Ready}
use Rattle.recognition.proofs.Laws.Condition.{placed_formed}
use Rattle.recognition.specs.Laws.Order.{around, order_places}
use Rattle.recognition.proofs.Laws.Facts.{graft_facts}
use Rattle.recognition.proofs.Promises.{recognises}
use Rattle.recognition.specs.Recognition.{all_graft, placed}
use Rattle.grafting.specs.Grafting.{grafted}
use Rattle.grafting.specs.Laws.Grafted.{grafted_exact}

-- ## Both engines, called with the same arguments

-- what the first left is a, f' and v', what the second left is b, g and w: the same answer, refusals and their four images included,
-- and the same places
pub engines_agree : (L n : ℕ) (t f v : List ℕ) (a b : Written) (f' v' g w : List ℕ) → LeftRows (exact_outcome L n t f v) a f' v'
    → LeftRows (exact_outcome L n t f v) b g w → (a ≡ b) × (f' ≡ g) × (v' ≡ w)
engines_agree L n t f v a b f' v' g w p q = left_rows_once p q

-- ## Demand 2, of the second engine

pub demand_2 : (L n : ℕ) (t f v : List ℕ) (r : Written) (f' v' : List ℕ) → Ready L n t (length f) (length v)
    → LeftRows (exact_outcome L n t f v) r f' v' → ExactlyWhen L n t f v r f' v'
demand_2 = exactly_when

-- ## How it gets there

-- of n images, in the order from image 0 with the last image at the end: document 001's formula gives every entry exactly where the
-- four-point condition holds, and then the grafted table has path costs equal to twice the entries
pub record Recognises (L : ℕ) (d : ℕ → ℕ → ℕ) (k : ℕ) : Type 0 where
  pub condition : (all_graft (placed d (around d k)) (suc k) ≡ true) ↔ FourPoint d (suc (suc k))
  pub tree : FourPoint d (suc (suc k)) → Exact L d (suc (suc k)) (grafted (placed d (around d k)) (around d k) (suc (suc k)) (suc k))

pub recognised_tree : (L : ℕ) (d : ℕ → ℕ → ℕ) (k : ℕ) → 1 ≤ k → WellFormed L d (suc (suc k)) → Recognises L d k
recognised_tree L d k h c =
    let r = recognises L d k c in
    let w = order_places d k in
    record {
      condition = r;
      tree = λ fp.
          let f = placed_formed L d (around d k) (suc (suc k)) w c in
          grafted_exact L d (around d k) k h w c f (graft_facts (placed d (around d k)) (suc k) (r.1 fp));
    }
