-- Demands 2 and 3 over what the calls answered and left in the lent slices, f' and v' after f and v. Demand 1, of every call, is in
-- kemotuiki/proofs/Demand1.antt. Assumes nothing.
use Rattle.ground.specs.Refusals.{Written}
use Rattle.std.specs.Prelude.{List, refl, ◌≡◌, ℕ, ◌<◌, length, Ok}
use Rattle.std.proofs.Common.{subst, ◌∙◌, arith}
use Rattle.theory.proofs.Demands.{stable}
use Rattle.theory.specs.FourPoint.{FourPoint}
use Rattle.theory.specs.LinkTables.{path}
use Rattle.theory.specs.Outcomes.{LeftRows}
use Rattle.theory.specs.Readings.{Near}
use Rattle.theory.specs.Tables.{cost}
use Rattle.wiring.proofs.Promises.{wiring_passed}
use Rattle.tree.specs.Exact.{exact_rows}
use Rattle.tree.specs.Promises.{ExactAnswer}
use Rattle.tree.proofs.Promises.{exact_answer, measured-answer}
use Rattle.tree.specs.Readings.{exact_outcome, measured_outcome}
use Rattle.tree.specs.Writing.{Ready, rows_left}
use Rattle.tree.proofs.Laws.Exact.{wired_exactly}
use Rattle.tree.proofs.Laws.Writing.{measured-passed}
pub use Rattle.tree.specs.Demands.{ExactlyWhen, Demand3}

-- ## Demand 2

-- of a well-formed table with room
pub exactly_when : (L n : ℕ) (t f v : List ℕ) (r : Written) (f' v' : List ℕ) → Ready L n t (length f) (length v) → LeftRows (exact_outcome L n t f v) r f' v'
    → ExactlyWhen L n t f v r f' v'
exactly_when L n t f v r f' v' y l = record {
  by_condition = (λ p. (found p.0 p.1).condition, reads);
  by_tree = (λ p. let x = found p.0 p.1 in (rows_left p.0 f' v', x.exact), λ x. reads ((wired_exactly L n t y.table).0 x).condition);
  answer = found;
}
  where
    found : (k : ℕ) → r ≡ Ok k → ExactAnswer L n t f v k f' v'
    found k e = exact_answer L n t f v k f' v' (subst (λ (q : Written). LeftRows (exact_outcome L n t f v) q f' v') e l)

    reads : FourPoint (cost t n) n → (k : ℕ) × (r ≡ Ok k)
    reads fp = (
      length (exact_rows L n t),
      l.answered ∙ rw ((measured-passed L n t (length f) (length v)).1 y, (wiring_passed L (cost t n) n y.table.formed).1 fp) refl,
    )

-- In the tree that was left no two images stand at one place, since they cost something: of the own links at a switch one at most costs 0.
pub images-apart : (L n : ℕ) (t f v : List ℕ) (k : ℕ) (f' v' : List ℕ) → LeftRows (exact_outcome L n t f v) (Ok k) f' v'
    → {i j : ℕ} → i < n → j < n → (i ≡ j → ⊥) → 0 < path (rows_left k f' v') i j
images-apart L n t f v k f' v' l {i} {j} hi hj h =
    let x = exact_answer L n t f v k f' v' l in
    omega (arith, x.exact.meets.meets {i = i} {j = j} hi hj, x.ready.table.formed.nonzero {i = i} {j = j} hi hj h)

-- ## Demand 3

-- of the rows that the two calls left
pub demand_3 : (L D n : ℕ) (t u f v g w : List ℕ) (r s : ℕ) (f' v' g' w' : List ℕ)
    → LeftRows (exact_outcome L n t f v) (Ok r) f' v' → LeftRows (measured_outcome L n u g w) (Ok s) g' w' → Near D (cost t n) (cost u n) n
    → Demand3 L D n u (rows_left r f' v') (rows_left s g' w')
demand_3 L D n t u f v g w r s f' v' g' w' l m p =
    let x = exact_answer L n t f v r f' v' l in
    let y = measured-answer L n u g w s g' w' m in
    let b = stable L D (cost t n) (cost u n) n (rows_left r f' v') y.ready.table.some x.ready.table.formed y.ready.table.formed x.exact p in
    record { near = λ S h. rw y.left.rows (b.near S h); drawn = y.drawn }
