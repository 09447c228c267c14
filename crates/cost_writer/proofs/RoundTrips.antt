-- What document 01 says of stored cost tables, in the words of the calls: of both forms at once, e and g being either. Assumes nothing.
use Rattle.std.specs.Prelude.{List, [], ◌++◌, ◌≡◌, ℕ, ◌*◌, ◌+◌, ◌/◌, ◌≤◌, drop, length, take, Ok, Err}
use Rattle.std.proofs.Common.{ap, subst, sym, ◌∙◌, arith, length-append, length-drop, drop_at, take_at}
use Rattle.ground.specs.declared.Refusal.{Refusal}
use Rattle.theory.specs.Laws.Limits.{table_wide}
use Rattle.theory.specs.Tables.{CostTable, cost, limit}
use Rattle.bits.specs.Bits.{AllBytes}
use Rattle.bits.specs.Editions.{Marked, edition_of}
use Rattle.bits.specs.declared.Edition.{Edition}
use Rattle.bits.specs.declared.Form.{Form}
use Rattle.cost_writer.proofs.Laws.Accepted.{passed_write}
use Rattle.cost_writer.proofs.Laws.Again.{read_again}
use Rattle.cost_writer.specs.Writing.{write_checks, write_outcome}
use Rattle.cost_forms.specs.Form.{cost_bytes, cost_form, cost_form_at, cost_used}
use Rattle.cost_forms.specs.Said.{stored_table}
use Rattle.cost_forms.specs.Laws.Form.{length-costs}
use Rattle.stored_costs.proofs.Laws.Passed.{table-at}
use Rattle.stored_costs.proofs.Laws.Positions.{same_bytes}
use Rattle.stored_costs.proofs.Laws.Told.{costs-marked, either_rest, either_written, form_limit}
use Rattle.stored_costs.specs.Laws.WriteBack.{read_table}
use Rattle.stored_costs.specs.Outcomes.{judged, judged_either, read_either, read_outcome}
use Rattle.stored_costs.specs.Reading.{read_at_checks}
use Rattle.stored_costs.specs.Stored.{read_into}
use Rattle.ground.specs.Outcomes.{wrote_into}
pub use Rattle.cost_writer.specs.RoundTrips.{both_written}

-- Reading what was written gives the table back, in whichever form it was written.
pub reading_undoes_writing : (e : Edition) (n : ℕ) (t out places : List ℕ) → CostTable (cost_form e).limit n t → cost_used (cost_form e) n ≤ length out
    → n * n ≤ length places
    → ((write_outcome (cost_form e) n t out).answer ≡ Ok (cost_used (cost_form e) n))
    × (read_either (write_outcome (cost_form e) n t out).places 0 places ≡ read_into n (cost_used (cost_form e) n) t places)
reading_undoes_writing e n t out places c h k =
    let p : write_checks (cost_form e) n t (length out) ≡ (Ok tt) = passed_write (cost_form e) n t (length out) (form_limit e) c h in
    let m = cost_bytes (cost_form e) n (cost t n) in
    (rw p, rw p (either_written e n t [] (drop (length m) out) places c k))

-- Writing what was read, in the form that it had, gives the same used bytes.
pub writing_undoes_reading : (bytes : List ℕ) (position room n used : ℕ) (out : List ℕ) → AllBytes bytes
    → judged_either bytes position room ≡ Ok (record { n = n; used = used }) → used ≤ length out
    → let form = cost_form_at bytes position in
    write_outcome form n (stored_table form n (drop (position / 8) bytes)) out ≡ wrote_into used (take used (drop (position / 8) bytes)) out
writing_undoes_reading bytes position room n used out b e h =
    read_again (cost_form_at bytes position) (form_limit (edition_of (drop (position / 8) bytes))) bytes position room n used out b e
    (costs-marked bytes position) h

-- What is read is a cost table.
pub reading_is_a_table : (bytes : List ℕ) (position room n used : ℕ) → judged_either bytes position room ≡ Ok (record { n = n; used = used })
    → CostTable limit n (stored_table (cost_form_at bytes position) n (drop (position / 8) bytes))
reading_is_a_table bytes position room n used e =
    let form = cost_form_at bytes position in
    let a = table-at form bytes position room n used e in
    table_wide form.limit limit n (stored_table form n (drop (position / 8) bytes)) (form_limit (edition_of (drop (position / 8) bytes)))
    (rw (← a.number) (read_table form (drop (position / 8) bytes) room a.readable))

-- One table has one stored form of each kind: what is read as the same table, in the same form, stands in the same bytes.
pub one_stored_form : (a b : List ℕ) (p q r s n u v : ℕ) → AllBytes a → AllBytes b → edition_of (drop (p / 8) a) ≡ edition_of (drop (q / 8) b)
    → judged_either a p r ≡ Ok (record { n = n; used = u }) → judged_either b q s ≡ Ok (record { n = n; used = v })
    → stored_table (cost_form_at a p) n (drop (p / 8) a) ≡ stored_table (cost_form_at b q) n (drop (q / 8) b)
    → take u (drop (p / 8) a) ≡ take v (drop (q / 8) b)
one_stored_form a b p q r s n u v ha hb k e f h =
    let same : cost_form_at a p ≡ cost_form_at b q = ap cost_form k in
    same_bytes (cost_form_at b q) a b p q r s n u v ha hb
    (subst (λ (x : Form). judged x a p r ≡ Ok (record { n = n; used = u })) same e) f
    (subst (λ (x : Form). Marked x (drop (p / 8) a)) same (costs-marked a p)) (costs-marked b q)
    (ap (λ (x : Form). stored_table x n (drop (p / 8) a)) (sym same) ∙ h)

-- Two stored tables are read one after the other, whichever forms they have, the second from the byte where the first ended: at that
-- position, or as the part of the bytes from there on.
pub read_in_turn : (e g : Edition) (m n : ℕ) (t u behind places : List ℕ) → CostTable (cost_form e).limit m t → CostTable (cost_form g).limit n u
    → m * m ≤ length places → n * n ≤ length places
    → let both = cost_bytes (cost_form e) m (cost t m) ++ (cost_bytes (cost_form g) n (cost u n) ++ behind) in
    let used = cost_used (cost_form e) m in
    (read_either both 0 places ≡ read_into m used t places)
    × (read_either both (8 * used) places ≡ read_into n (cost_used (cost_form g) n) u places)
    × (read_either (drop used both) 0 places ≡ read_into n (cost_used (cost_form g) n) u places)
read_in_turn e g m n t u behind places c d h k =
    let a = cost_bytes (cost_form e) m (cost t m) in
    let b = cost_bytes (cost_form g) n (cost u n) ++ behind in
    let l : length a ≡ cost_used (cost_form e) m = length-costs (cost_form e) m (cost t m) in
    let second : read_either (a ++ b) (8 * cost_used (cost_form e) m) places ≡ read_into n (cost_used (cost_form g) n) u places =
    ap (λ (x : ℕ). read_either (a ++ b) (8 * x) places) (sym l) ∙ either_written g n u a behind places d k in (
      either_written e m t [] b places c h,
      second,
      either_rest (a ++ b) (cost_used (cost_form e) m) places (omega (arith, l, length-append a b)) ∙ second,
    )

pub one_after_another : (e g : Edition) (m n : ℕ) (t u out places : List ℕ) → CostTable (cost_form e).limit m t → CostTable (cost_form g).limit n u
    → cost_used (cost_form e) m + cost_used (cost_form g) n ≤ length out → m * m ≤ length places → n * n ≤ length places
    → (read_either (both_written e g m n t u out) 0 places ≡ read_into m (cost_used (cost_form e) m) t places)
    × (read_either (both_written e g m n t u out) (8 * cost_used (cost_form e) m) places ≡ read_into n (cost_used (cost_form g) n) u places)
one_after_another e g m n t u out places c d r h k =
    let a = cost_bytes (cost_form e) m (cost t m) in
    let b = cost_bytes (cost_form g) n (cost u n) in
    let o = drop (length a) out in
    let l : length a ≡ cost_used (cost_form e) m = length-costs (cost_form e) m (cost t m) in
    let first : (write_outcome (cost_form e) m t out).places ≡ a ++ o =
    rw (passed_write (cost_form e) m t (length out) (form_limit e) c (omega arith)) in
    let second : (write_outcome (cost_form g) n u o).places ≡ b ++ drop (length b) o =
    rw (passed_write (cost_form g) n u (length o) (form_limit g) d (omega (arith, l, length-drop (length a) out))) in
    let both : both_written e g m n t u out ≡ a ++ (b ++ drop (length b) o) =
    rw (first, take_at a o (cost_used (cost_form e) m) l, drop_at a o (cost_used (cost_form e) m) l, second) in
    let p = read_in_turn e g m n t u (drop (length b) o) places c d h k in
    rw both (p.0, p.1)

-- Refused, no lent place is altered.
pub refused_writing : (form : Form) (n : ℕ) (t out : List ℕ) (r : Refusal) → write_checks form n t (length out) ≡ Err r
    → write_outcome form n t out ≡ record { answer = Err r; places = out }
refused_writing form n t out r e = rw e

pub refused_reading : (form : Form) (bytes : List ℕ) (position : ℕ) (places : List ℕ) (r : Refusal)
    → read_at_checks form bytes position (length places) ≡ Err r
    → read_outcome form bytes position places ≡ record { answer = Err r; places = places }
refused_reading form bytes position places r e = rw e
