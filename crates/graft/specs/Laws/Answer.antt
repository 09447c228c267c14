-- The second engine answers as the first: from the order and the grafted rows to the outcome of the exact reading. Assumes nothing.
use Rattle.std.specs.Prelude.{Bool, false, true, List, map, suc, refl, ◌≡◌, ℕ, ◌*◌, ◌-◌, ◌≤◌, length, Ok, Err}
use Rattle.std.proofs.Common.{true≢false, replicate, ap, sym, ◌∙◌, arith}
use lib.ListN.{length-replicate}
use Rattle.ground.specs.Buffers.{front, over}
use Rattle.ground.specs.Refusals.{places_if, Check, Written}
use Rattle.ground.specs.declared.Refusal.{Refusal}
use Rattle.theory.proofs.Demands.{measured_reading}
use Rattle.theory.specs.Order.{order}
use Rattle.theory.specs.Outcomes.{LeftRows}
use Rattle.theory.specs.Tables.{CostTable, cost, limit}
use Rattle.tables.specs.Entries.{costs_in}
use Rattle.tables.specs.declared.costs.Costs.{Costs}
use Rattle.wiring.specs.Check.{wiring_check}
use Rattle.wiring.proofs.Promises.{wiring_passed}
use Rattle.tree.specs.Exact.{exact_rows}
use Rattle.tree.proofs.Laws.Exact.{readings_agree}
use Rattle.tree.specs.Laws.LocalRows.{rows_in-length}
use Rattle.tree.proofs.Laws.Writing.{left_written, measured-passed, rows-over}
use Rattle.tree.specs.LocalRows.{rows_in}
use Rattle.tree.specs.Readings.{exact_outcome, measured_check, outcome}
use Rattle.tree.specs.Writing.{Ready, RowsWritten}
use Rattle.recognition.proofs.Laws.Seats.{order_ordered, seats_condition}
use Rattle.recognition.specs.Recognition.{all_graft, placed}
use Rattle.recognition.specs.Seats.{Ordered, Seated, seat}
use Rattle.grafting.specs.Held.{TableGrafted}
use Rattle.grafting.specs.Laws.Reading.{graft_measured}

-- ## Grafted

module _ (n : ℕ) (t l : List ℕ) (c : CostTable limit n t) (y : Seated n l) (a : all_graft (placed (cost t n) (seat l)) (n - 1) ≡ true)
    (g w : List ℕ) (r : ℕ) (h : TableGrafted (cost t n) l n r g w) where
  grafted-rows : rows_in g w r ≡ exact_rows limit n t
  grafted-rows =
      h.rows ∙ graft_measured limit (cost t n) (seat l) n c.some c.formed y.places a ∙ sym (readings_agree limit n t)

  pub rows_few : r ≤ 2 * n - 3
  rows_few =
      let e = sym (rows_in-length g w r) ∙ ap length (grafted-rows ∙ readings_agree limit n t) in
      omega (arith, e, (measured_reading limit (cost t n) n c.some c.formed).drawn.most)

  pub rows_fit : (r ≤ length g) × (r ≤ length w)
  rows_fit = (omega (arith, rows_few, c.few, h.far-room), omega (arith, rows_few, c.few, h.cost-room))

  pub grafted_written : (f v f' v' : List ℕ) → f' ≡ over r g f → v' ≡ over r w v → RowsWritten (exact_rows limit n t) r f v f' v'
  grafted_written f v f' v' p q = rows-over (exact_rows limit n t) r g w f v f' v' grafted-rows rows_fit.0 rows_fit.1 p q

-- the same of a cost table, as the code has it
module _ (t : Costs) (l : List ℕ) (y : Seated t.n l) (a : all_graft (placed (costs_in t) (seat l)) (t.n - 1) ≡ true)
    (g w : List ℕ) (r : ℕ) (h : TableGrafted (costs_in t) l t.n r g w) where
  pub count_few : r ≤ 2 * t.n - 3
  count_few = rows_few t.n t.entries.now l t.formed y a g w r h

  pub count_fits : (r ≤ length g) × (r ≤ length w)
  count_fits = rows_fit t.n t.entries.now l t.formed y a g w r h

  pub table_written : (f v f' v' : List ℕ) → f' ≡ over r g f → v' ≡ over r w v → RowsWritten (exact_rows limit t.n t.entries.now) r f v f' v'
  table_written f v f' v' p q = grafted_written t.n t.entries.now l t.formed y a g w r h f v f' v' p q

-- ## Read

module _ (n : ℕ) (t l : List ℕ) (c : CostTable limit n t) (y : Ordered (cost t n) n l) (f v : List ℕ) where
  abbrev all : ℕ → ℕ → ℕ
  all = placed (cost t n) (seat l)

  -- where each image can be grafted, the wiring check would pass
  pub read_written : (r : ℕ) (f' v' : List ℕ) → all_graft all (n - 1) ≡ true → RowsWritten (exact_rows limit n t) r f v f' v'
      → LeftRows (outcome (wiring_check (cost t n) n) (exact_rows limit n t) f v) (Ok r) f' v'
  read_written r f' v' s k =
      let fp = (seats_condition limit n (cost t n) l (omega (arith, c.some)) c.formed y).0 s in
      left_written (wiring_check (cost t n) n) (exact_rows limit n t) r f v f' v' refl (sym ((wiring_passed limit (cost t n) n c.formed).1 fp)) k

  -- where one cannot, it refuses
  pub read_refused : (b : Written) → all_graft all (n - 1) ≡ false → b ≡ places_if (wiring_check (cost t n) n) 0
      → LeftRows (outcome (wiring_check (cost t n) n) (exact_rows limit n t) f v) b f v
  read_refused b s p = go (wiring_check (cost t n) n) refl p
    where
      go : (k : Check) → wiring_check (cost t n) n ≡ k → b ≡ places_if k 0 → LeftRows (outcome k (exact_rows limit n t) f v) b f v
      go (Ok tt) e p =
          let fp = (wiring_passed limit (cost t n) n c.formed).0 e in
          absurd (true≢false (sym ((seats_condition limit n (cost t n) l (omega (arith, c.some)) c.formed y).1 fp) ∙ s))
      go (Err q) e p = record { answered = p; far-sides = refl; doubled = refl }

-- the same of a cost table, as the code has it
module _ (t : Costs) (l : List ℕ) where
  pub ordered_by : l ≡ front (map suc (order (costs_in t) t.n 0 (t.n - 1))) (replicate 64 0) → Ordered (costs_in t) t.n l
  ordered_by e =
      order_ordered (costs_in t) t.n (replicate 64 0) l (omega (arith, t.formed.some)) (omega (arith, t.formed.few, length-replicate {A = ℕ} 64 0)) e

  module _ (y : Ordered (costs_in t) t.n l) (f v : List ℕ) where
    pub reading_written : (r : ℕ) (f' v' : List ℕ) {b : Bool} → b ≡ all_graft (placed (costs_in t) (seat l)) (t.n - 1) → b ≡ true
        → RowsWritten (exact_rows limit t.n t.entries.now) r f v f' v'
        → LeftRows (outcome (wiring_check (costs_in t) t.n) (exact_rows limit t.n t.entries.now) f v) (Ok r) f' v'
    reading_written r f' v' e q k = read_written t.n t.entries.now l t.formed y f v r f' v' (sym e ∙ q) k

    pub reading_refused : (r : Written) {b : Bool} → b ≡ all_graft (placed (costs_in t) (seat l)) (t.n - 1) → b ≡ false
        → r ≡ places_if (wiring_check (costs_in t) t.n) 0
        → LeftRows (outcome (wiring_check (costs_in t) t.n) (exact_rows limit t.n t.entries.now) f v) r f v
    reading_refused r e q p = read_refused t.n t.entries.now l t.formed y f v r (sym e ∙ q) p

pub refused_is : {x : Check} {r : Refusal} (y : Check) → x ≡ Err r → x ≡ y → Err r ≡ places_if y 0
refused_is y e q = rw (← q, e)

pub passed_is : {x : Check} (y : Check) → x ≡ Ok tt → x ≡ y → Ok 0 ≡ places_if y 0
passed_is y e q = rw (← q, e)

-- ## The public call

pub exact_refused : {k : Check} {r : Refusal} (n : ℕ) (t f v : List ℕ) → k ≡ Err r → k ≡ measured_check limit n t (length f) (length v)
    → LeftRows (exact_outcome limit n t f v) (Err r) f v
exact_refused n t f v e q = rw (← q, e) (record { answered = refl; far-sides = refl; doubled = refl })

pub exact_read : {k : Check} (n : ℕ) (t f v : List ℕ) (b : Written) (f' v' : List ℕ) → k ≡ Ok tt → k ≡ measured_check limit n t (length f) (length v)
    → LeftRows (outcome (wiring_check (cost t n) n) (exact_rows limit n t) f v) b f' v' → LeftRows (exact_outcome limit n t f v) b f' v'
exact_read n t f v b f' v' e q l = rw (← q, e) l

pub ready : (n : ℕ) (t : List ℕ) (f v : ℕ) → measured_check limit n t f v ≡ Ok tt → Ready limit n t f v
ready n t f v = (measured-passed limit n t f v).0

-- what the author of the call names
pub ruleset call_laws = (ready, exact_refused, exact_read)
