-- What an accepted conversion of a stored cost table says, and when one is accepted. Assumes nothing.
use Rattle.std.specs.Prelude.{List, ◌≡◌, ℕ, ◌≤◌, length, Ok, Err}
use Rattle.std.proofs.Common.{ap, sym, ◌∙◌, arith}
use Rattle.ground.specs.Buffers.{front}
use Rattle.ground.specs.Outcomes.{Left, front_if, wrote_into}
use Rattle.ground.specs.Refusals.{Check, Written}
use Rattle.ground.specs.Laws.Refusals.{if_accepted, then_passed}
use Rattle.theory.specs.Tables.{CostTable, cost, limit}
use Rattle.bits.specs.declared.Edition.{Edition}
use Rattle.cost_forms.specs.Form.{cost_bytes, cost_form, cost_form_at}
use Rattle.stored_costs.proofs.Laws.Enough.{TableStored, table_said_lem}
use Rattle.stored_costs.specs.Reading.{table_checks}
use Rattle.cost_writer.proofs.Laws.Accepted.{passed_store, store_passed}
use Rattle.cost_limits.specs.Laws.Fitting.{table-narrow}
use Rattle.cost_writer.specs.Writing.{store_checks, stored_if}
use Rattle.conversion.specs.Costs.{Begins, EntriesFit, cost_checks, costs_converted, images_said, table_said, used_in}

-- a conversion to the form e that was accepted with u bytes
pub record Converted (e : Edition) (s out : List ℕ) (u : ℕ) (out' : List ℕ) : Type 0 where
  pub begins : Begins s
  pub table : CostTable (cost_form e).limit (images_said s) (table_said s)
  pub used : used_in e s ≡ u
  pub left : out' ≡ front (cost_bytes (cost_form e) (images_said s) (cost (table_said s) (images_said s))) out

places_same : (a b : ℕ) → ◌≡◌ {A = Written} (Ok a) (Ok b) → a ≡ b
places_same a b q = cc

-- what is stored as the table t in the form e, and what begins with a table, by the checks of the form g
pub stored_table_lem : (e g : Edition) (n : ℕ) (t x more : List ℕ) → TableStored e n t x
    → costs_converted g x more ≡ stored_if (store_checks (cost_form g) n (cost t n) (length more)) (cost_form g) n t more
stored_table_lem e g n t x more d = rw (d.told, d.passed, d.images, d.table)

pub begun-table : (g : Edition) (s more : List ℕ) → Begins s
    → costs_converted g s more ≡ stored_if (store_checks (cost_form g) (images_said s) (cost (table_said s) (images_said s)) (length more)) (cost_form g) (images_said s)
    (table_said s) more
begun-table g s more b = rw b

-- entries that fit, said of the table
pub fitting : (e : Edition) (s : List ℕ) → Begins s → EntriesFit e s → CostTable (cost_form e).limit (images_said s) (table_said s)
fitting e s b h =
    let c = table_said_lem s b in
    record {
      some = c.some;
      few = c.few;
      sized = c.sized;
      formed = record { small = λ {i} {j} hi hj. h i j hi hj; self = c.formed.self; same = c.formed.same; nonzero = c.formed.nonzero };
    }

module _ (e : Edition) (s out : List ℕ) where
  pub converted : (u : ℕ) (out' : List ℕ) → Left (costs_converted e s out) (Ok u) out' → Converted e s out u out'
  converted u out' p =
      let n = images_said s in
      let t = table_said s in
      let store = store_checks (cost_form e) n (cost t n) (length out) in
      let q = if_accepted Err (cost_checks e s (length out)) (Ok (used_in e s))
      (λ r z. absurd (let o : ◌≡◌ {A = ℕ} 0 1 = cc in omega arith)) (sym p.answered) in
      let k = then_passed (table_checks (cost_form_at s 0) s) store q.0 in
      let w = store_passed (cost_form e) n t (length out) k.1 in
      record {
        begins = k.0;
        table = table-narrow (cost_form e).limit limit n t (table_said_lem s k.0) w.0;
        used = places_same (used_in e s) u q.1;
        left = p.left ∙ ap (λ (c : Check). front_if c (cost_bytes (cost_form e) n (cost t n)) out) q.0;
      }

  -- what begins with a table within the form's limit is converted, where there is room
  pub accepted : Begins s → CostTable (cost_form e).limit (images_said s) (table_said s) → used_in e s ≤ length out
      → costs_converted e s out ≡ wrote_into (used_in e s)
      (cost_bytes (cost_form e) (images_said s) (cost (table_said s) (images_said s))) out
  accepted b c h = rw (b, passed_store (cost_form e) (images_said s) (table_said s) (length out) c h)
