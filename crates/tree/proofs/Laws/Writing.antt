-- The rows are written as the outcome says and stand where the caller looks for them, and what the checks have shown by then.
-- Assumes nothing.
use Rattle.std.specs.Prelude.{List, ◌↔◌, refl, ◌≡◌, ℕ, ◌*◌, ◌-◌, ◌≤◌, ltb, drop, length, take, Ok, Err}
use Rattle.std.proofs.Common.{ap, ap₂, sym, ◌∙◌, arith, drop_at, take_at, le-ltb, ltb-false}
use Rattle.std.proofs.lemmas.List.{length-map}
use Rattle.ground.specs.Buffers.{front, over}
use Rattle.ground.specs.Laws.Buffers.{over-front, over_none, over-more}
use Rattle.ground.specs.Counts.{count}
use Rattle.ground.specs.Refusals.{◌then◌, Check}
use Rattle.ground.specs.Laws.Refusals.{refuse_if-passed, then_passed}
use Rattle.ground.specs.Laws.Tests.{or_false}
use Rattle.ground.specs.declared.Refusal.{Refusal}
use Rattle.theory.proofs.Demands.{measured_reading}
use Rattle.theory.specs.Laws.JoinedRows.{rows_of-all}
use Rattle.theory.specs.LinkTables.{Row, costs, far, fars, rows_of}
use Rattle.theory.specs.Outcomes.{LeftRows}
use Rattle.theory.specs.Readings.{measured}
use Rattle.theory.specs.Tables.{WellFormed, cost}
use Rattle.tables.specs.Checks.{costs_check, size_check}
use Rattle.tables.proofs.Laws.Formed.{cost-table}
use Rattle.growing.specs.Held.{RowsHeld}
use Rattle.lowered_rows.specs.Laws.LocalRows.{rows_in-costs, rows_in-fars, rows_in-length}
use Rattle.lowered_rows.specs.LocalRows.{rows_in}
use Rattle.tree.specs.Readings.{exact_check, measured_check, outcome, outputs_room_check, short}
use Rattle.wiring.specs.Check.{wiring_check}
use Rattle.tree.specs.Writing.{Ready, RowsStand, RowsWritten}

-- what `write_rows` names
pub ruleset place_by_place = (over_none, over-more)

-- rows in local arrays, written over the first places
pub rows-over : (T : List Row) (count : ℕ) (g w f v f' v' : List ℕ) → rows_in g w count ≡ T → count ≤ length g → count ≤ length w
    → f' ≡ over count g f → v' ≡ over count w v → RowsWritten T count f v f' v'
rows-over T count g w f v f' v' is x y e q =
    let m = sym (rows_in-length g w count) ∙ ap length is in
    record {
      counted = m;
      far-front = e ∙ over-front count g f (fars T) (rows_in-fars g w count x ∙ ap fars is) (length-map T far ∙ sym m);
      cost-front = q ∙ over-front count w v (costs T) (rows_in-costs g w count y ∙ ap costs is) (length-map T (λ r. r.1) ∙ sym m);
    }

-- those of the measured reading
pub rows_written : (L : ℕ) (d : ℕ → ℕ → ℕ) (n count : ℕ) (g w f v f' v' : List ℕ) → RowsHeld L d n g w count → f' ≡ over count g f → v' ≡ over count w v
    → RowsWritten (measured L d n) count f v f' v'
rows_written L d n count g w f v f' v' h =
    rows-over (measured L d n) count g w f v f' v' h.is (omega (arith, h.few, h.far-room)) (omega (arith, h.few, h.cost-room))

-- its rows are at most 2 n - 3
pub held_count : (L : ℕ) (d : ℕ → ℕ → ℕ) (n count : ℕ) (g w : List ℕ) → 3 ≤ n → WellFormed L d n → RowsHeld L d n g w count → count ≤ 2 * n - 3
held_count L d n count g w h c p =
    omega (arith, sym (rows_in-length g w count) ∙ ap length p.is, (measured_reading L d n h c).drawn.most)

pub room-passed : (need f v : ℕ) → need ≤ f → need ≤ v → outputs_room_check need f v ≡ Ok tt
room-passed need f v a b = rw (le-ltb f need a, le-ltb v need b)

pub measured-passed : (L n : ℕ) (t : List ℕ) (f v : ℕ) → (measured_check L n t f v ≡ Ok tt) ↔ Ready L n t f v
measured-passed L n t f v = (
  λ e.
      let p = then_passed (size_check n t) (outputs_room_check (2 * n - 3) f v then costs_check L (cost t n) n) e in
      let q = then_passed (outputs_room_check (2 * n - 3) f v) (costs_check L (cost t n) n) p.1 in
      let s = or_false (ltb f (2 * n - 3)) (ltb v (2 * n - 3)) (refuse_if-passed (short (2 * n - 3) f v) _ q.0) in
      record {
        table = (cost-table L n t).0 (rw p.0 q.1);
        far-room = ltb-false f (2 * n - 3) s.0;
        cost-room = ltb-false v (2 * n - 3) s.1;
      },
  λ r.
      let p = then_passed (size_check n t) (costs_check L (cost t n) n) ((cost-table L n t).1 r.table) in
      rw (p.0, room-passed (2 * n - 3) f v r.far-room r.cost-room) p.1,
)

pub exact_ready : (L n : ℕ) (t : List ℕ) (f v : ℕ) → exact_check L n t f v ≡ Ok tt → Ready L n t f v
exact_ready L n t f v e = (measured-passed L n t f v).0 (then_passed (measured_check L n t f v) (wiring_check (cost t n) n) e).0

-- ## What a call leaves

pub left-refused : {x : Check} {r : Refusal} (y : Check) (T : List Row) (f v : List ℕ) → x ≡ Err r → x ≡ y
    → LeftRows (outcome y T f v) (Err r) f v
left-refused y T f v e q = rw (← q, e) (record { answered = refl; far-sides = refl; doubled = refl })

pub left_written : {x : Check} (y : Check) (T : List Row) (r : ℕ) (f v f' v' : List ℕ) → x ≡ Ok tt → x ≡ y → RowsWritten T r f v f' v'
    → LeftRows (outcome y T f v) (Ok r) f' v'
left_written y T r f v f' v' e q w = rw (← q, e) (record { answered = ap Ok w.counted; far-sides = w.far-front; doubled = w.cost-front })

-- ## What the caller finds

front-take : (m d : List ℕ) → take (length m) (front m d) ≡ m
front-take m d = take_at m (drop (length m) d) (length m) refl

front-drop : (m d : List ℕ) → drop (length m) (front m d) ≡ drop (length m) d
front-drop m d = drop_at m (drop (length m) d) (length m) refl

pub written_stand : (T : List Row) (r : ℕ) (f v f' v' : List ℕ) → RowsWritten T r f v f' v' → RowsStand T r f v f' v'
written_stand T r f v f' v' w =
    let m : r ≡ length (fars T) = w.counted ∙ sym (length-map T far) in
    let k : r ≡ length (costs T) = w.counted ∙ sym (length-map T (λ q. q.1)) in
    record {
      rows = ap₂ rows_of (ap₂ take m w.far-front ∙ front-take (fars T) f) (ap₂ take k w.cost-front ∙ front-take (costs T) v) ∙ rows_of-all T;
      far-rest = ap₂ drop m w.far-front ∙ front-drop (fars T) f ∙ ap (λ i. drop i f) (sym m);
      cost-rest = ap₂ drop k w.cost-front ∙ front-drop (costs T) v ∙ ap (λ i. drop i v) (sym k);
    }

-- a call that gives a number of rows has passed its checks, and left those rows
pub left_stand : (c : Check) (T : List Row) (r : ℕ) (f v f' v' : List ℕ) → LeftRows (outcome c T f v) (Ok r) f' v' → (c ≡ Ok tt) × RowsStand T r f v f' v'
left_stand (Ok tt) T r f v f' v' l =
    let e = l.answered in
    let counted : r ≡ length T = cc in
    (refl, written_stand T r f v f' v' (record { counted = counted; far-front = l.far-sides; cost-front = l.doubled }))
left_stand (Err q) T r f v f' v' l = absurd (let e = l.answered in let z : ◌≡◌ {A = ℕ} 0 1 = cc in omega arith)
