-- What the promises of the two readings are worth: what stands in the slices of an accepted call, and what a refusal says. A call is
-- seen from outside: its answer r, and the two lent slices before, f and v, and after, f' and v'. Assumes nothing.
use Rattle.ground.specs.Refusals.{Check}
use Rattle.std.specs.Prelude.{List, refl, ◌≡◌, ℕ, length, Ok, Err}
use Rattle.std.proofs.Common.{ap, subst, sym, ◌∙◌, arith}
use Rattle.ground.specs.Laws.Refusals.{then_passed}
use Rattle.ground.specs.declared.Refusal.{Refusal}
use Rattle.theory.proofs.Demands.{measured_reading, one_tree}
use Rattle.theory.specs.LinkTables.{Row}
use Rattle.theory.specs.Outcomes.{LeftRows}
use Rattle.theory.specs.Readings.{measured}
use Rattle.theory.specs.Tables.{CostTable, cost}
use Rattle.wiring.specs.Check.{wiring_check}
use Rattle.wiring.specs.Promises.{FirstFailing}
use Rattle.wiring.proofs.Promises.{wiring_passed, wiring_refused}
use Rattle.tree.specs.Exact.{Wired, exact_rows}
use Rattle.tree.specs.Readings.{exact_check, exact_outcome, measured_check, measured_outcome, outcome}
use Rattle.tree.specs.Writing.{Ready, rows_left}
use Rattle.tree.proofs.Laws.Exact.{exact_rows_lem}
use Rattle.tree.proofs.Laws.Writing.{left_stand, measured-passed}
pub use Rattle.tree.specs.Promises.{Drawn, MeasuredAnswer, ExactAnswer}

-- ## The measured reading
measured-drawn : (L n : ℕ) (t : List ℕ) → CostTable L n t → Drawn L n t (measured L (cost t n) n)
measured-drawn L n t c =
    let m = measured_reading L (cost t n) n c.some c.formed in
    record { tree = m.drawn; under = m.under; index = m.index }

module _ (L n : ℕ) (t f v : List ℕ) where
  pub measured-answer : (r : ℕ) (f' v' : List ℕ) → LeftRows (measured_outcome L n t f v) (Ok r) f' v' → MeasuredAnswer L n t f v r f' v'
  measured-answer r f' v' l =
      let a = left_stand (measured_check L n t (length f) (length v)) (measured L (cost t n) n) r f v f' v' l in
      let y = (measured-passed L n t (length f) (length v)).0 a.0 in
      record { ready = y; left = a.1; drawn = subst (Drawn L n t) (sym a.1.rows) (measured-drawn L n t y.table) }

  -- every cost table with room is read
  pub measured_reads : Ready L n t (length f) (length v) → (measured_outcome L n t f v).answer ≡ Ok (length (measured L (cost t n) n))
  measured_reads y = rw ((measured-passed L n t (length f) (length v)).1 y)

  -- ## The exact reading

  pub exact_answer : (r : ℕ) (f' v' : List ℕ) → LeftRows (exact_outcome L n t f v) (Ok r) f' v' → ExactAnswer L n t f v r f' v'
  exact_answer r f' v' l =
      let a = left_stand (exact_check L n t (length f) (length v)) (exact_rows L n t) r f v f' v' l in
      let p = then_passed (measured_check L n t (length f) (length v)) (wiring_check (cost t n) n) a.0 in
      let y = (measured-passed L n t (length f) (length v)).0 p.0 in
      let fp = (wiring_passed L (cost t n) n y.table.formed).0 p.1 in
      let w : Wired L n t = record { table = y.table; condition = fp } in
      let x = (exact_rows_lem L n t w (rows_left r f' v')).1 a.1.rows in
      record {
        ready = y;
        left = a.1;
        condition = fp;
        exact = x;
        only = λ T e. (exact_rows_lem L n t w T).0 e ∙ sym a.1.rows;
        tree = one_tree L n (rows_left r f' v') y.table.some x.tree;
      }

  -- a well-formed table with room is refused by 7 only, with the first four images that show why
  pub exact_refuses : (q : Refusal) → Ready L n t (length f) (length v) → (exact_outcome L n t f v).answer ≡ Err q → FirstFailing (cost t n) n q
  exact_refuses q y e = go (wiring_check (cost t n) n) refl (rw ((measured-passed L n t (length f) (length v)).1 y) at e)
    where
      go : (c : Check) → wiring_check (cost t n) n ≡ c → (outcome c (exact_rows L n t) f v).answer ≡ Err q → FirstFailing (cost t n) n q
      go (Ok tt) w e = absurd (let z : ◌≡◌ {A = ℕ} 0 1 = cc in omega arith)
      go (Err p) w e = let s : p ≡ q = cc in wiring_refused (cost t n) n q (w ∙ ap Err s)

-- ## Refused, nothing is altered; that no second answer meets a promise is `left_rows_once` of theory

pub refused_unaltered : (c : Check) (T : List Row) (q : Refusal) (f v f' v' : List ℕ) → LeftRows (outcome c T f v) (Err q) f' v'
    → (f' ≡ f) × (v' ≡ v)
refused_unaltered (Ok tt) T q f v f' v' l = absurd (let e = l.answered in let z : ◌≡◌ {A = ℕ} 0 1 = cc in omega arith)
refused_unaltered (Err p) T q f v f' v' l = (l.far-sides, l.doubled)
