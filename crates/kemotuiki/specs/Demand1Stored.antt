-- Demand 1 for the calls over stored tables, and for the text of an answer, said as in Demand1.antt. Assumes nothing.
use Rattle.ground.specs.Refusals.{refused_in}
use Rattle.std.specs.Prelude.{List, [], ◌++◌, ◌∷◌, refl, ◌≡◌, min, ℕ, length, Err}
use Rattle.std.proofs.Common.{ap, sym, ◌∙◌}
use Rattle.ground.specs.Laws.Outcomes.{front_stops}
use Rattle.ground.specs.Outcomes.{Left}
use Rattle.ground.specs.Ranges.{from, gather}
use Rattle.ground.specs.Steps.{of_table}
use Rattle.theory.specs.Outcomes.{LeftRows}
use Rattle.bits.specs.Editions.{edition_by}
use Rattle.cost_forms.specs.Form.{cost_form, cost_form_at}
use Rattle.link_forms.specs.Form.{link_form, link_form_at}
use Rattle.batch.specs.Batch.{batch_outcome}
use Rattle.batch.specs.InOrder.{batch_decides, batch_numbers_lem, batch_unaltered, batch_steps}
use Rattle.batch.specs.Tables.{tables}
use Rattle.choice.specs.Call.{choice_either}
use Rattle.choice.specs.InOrder.{choice_steps}
use Rattle.choice.proofs.InOrder.{choice_decides}
use Rattle.conversion.specs.Costs.{cost_checks, costs_converted}
use Rattle.conversion.specs.InOrder.{cost_steps, link_steps}
use Rattle.conversion.proofs.InOrder.{cost-order, link_order}
use Rattle.conversion.specs.Links.{link_checks, links_converted}
use Rattle.refusal_text.specs.InOrder.{refusal_text_order, refusal_text_steps}
use Rattle.refusal_text.specs.Text.{refusal_text_check, refusal_text_outcome}
use Rattle.numbers.specs.Stored.{of_batched, of_bytes, of_chosen, of_costs, of_links}
use Rattle.numbers.specs.declared.KemotuikiBytes.{KemotuikiBytes}
use Rattle.numbers.specs.declared.KemotuikiChoice.{KemotuikiChoice}
use Rattle.numbers.specs.declared.KemotuikiCosts.{KemotuikiCosts}
use Rattle.numbers.specs.declared.KemotuikiLinks.{KemotuikiLinks}
use Rattle.kemotuiki.specs.Crossing.{crossed, crossed_rows}
use Rattle.kemotuiki.specs.Laws.Refusals.{by_left, by_rows, refusals}
use Rattle.kemotuiki.specs.Refusals.{Refusals}
use Rattle.cost_writer.proofs.InOrder as costs-written
use Rattle.cost_writer.specs.Writing as costs-writing
use Rattle.stored_costs.proofs.InOrder as costs-read
use Rattle.stored_costs.specs.Outcomes as costs-reading
use Rattle.stored_costs.specs.Reading as costs-checks
use Rattle.link_writer.specs.InOrder as links-written
use Rattle.link_writer.specs.Writing as links-writing
use Rattle.stored_links.proofs.InOrder as links-read
use Rattle.stored_links.specs.Outcomes as links-reading
use Rattle.stored_links.specs.Reading as links-checks

-- k is the number of the form, 0 for the old one

pub write_costs : (k n : ℕ) (t out out' : List ℕ) (r : KemotuikiBytes)
    → Left (crossed of_bytes (costs-writing.write_outcome (cost_form (edition_by k)) n t out)) r out'
    → Refusals (of_table 0 (1 ∷ 2 ∷ 4 ∷ 5 ∷ 6 ∷ 20 ∷ 17 ∷ 3 ∷ [])) (costs-written.write_steps (cost_form (edition_by k)) n t (length out)) r.head (out ∷ [])
    (out' ∷ [])
write_costs k n t out out' r p =
    let form = cost_form (edition_by k) in
    by_left (λ (x : KemotuikiBytes). x.head) of_bytes Err (λ q. refl) (costs-writing.write_checks form n t (length out)) _ _ out refl refl
    (costs-written.write_order form n t (length out)) p

-- 9 of the position before all else
pub read_costs : (bytes : List ℕ) (position : ℕ) (out out' : List ℕ) (r : KemotuikiCosts)
    → Left (crossed of_costs (costs-reading.read_either bytes position out)) r out'
    → Refusals (of_table 0 (9 ∷ 9 ∷ 1 ∷ 3 ∷ 9 ∷ 11 ∷ 4 ∷ 20 ∷ [])) (costs-read.read_at_steps (cost_form_at bytes position) bytes position (length out)) r.head
    (out ∷ []) (out' ∷ [])
read_costs bytes position out out' r p =
    let form = cost_form_at bytes position in
    by_left (λ (x : KemotuikiCosts). x.head) of_costs Err (λ q. refl) (costs-checks.read_at_checks form bytes position (length out)) _ _
    out refl refl (costs-read.read_at_order form bytes position (length out)) p

pub write_links : (k n N : ℕ) (f v out out' : List ℕ) (r : KemotuikiBytes)
    → Left (crossed of_bytes (links-writing.write_outcome (link_form (edition_by k)) n N f v out)) r out'
    → Refusals (of_table 0 (1 ∷ 10 ∷ 2 ∷ 12 ∷ 13 ∷ 17 ∷ 3 ∷ [])) (links-written.write_steps (link_form (edition_by k)) n N f v (length out)) r.head
    (out ∷ []) (out' ∷ [])
write_links k n N f v out out' r p =
    let form = link_form (edition_by k) in
    by_left (λ (x : KemotuikiBytes). x.head) of_bytes Err (λ q. refl) (links-writing.write_checks form n N f v (length out)) _ _ out refl refl
    (links-written.write_order form n N f v (length out)) p

-- 9 of the position before all else; the shorter of the two lent buffers is the room
pub read_links : (bytes : List ℕ) (position : ℕ) (f v f' v' : List ℕ) (r : KemotuikiLinks)
    → LeftRows (crossed_rows of_links (links-reading.read_either bytes position f v)) r f' v'
    → Refusals (of_table 0 (9 ∷ 9 ∷ 1 ∷ 10 ∷ 3 ∷ 9 ∷ 11 ∷ 12 ∷ 13 ∷ []))
    (links-read.read_at_steps (link_form_at bytes position) bytes position (min (length f) (length v))) r.head (f ∷ v ∷ []) (f' ∷ v' ∷ [])
read_links bytes position f v f' v' r p =
    let form = link_form_at bytes position in
    let c = links-checks.read_at_checks form bytes position (min (length f) (length v)) in
    by_rows (λ (x : KemotuikiLinks). x.head) of_links Err (λ q. refl) c _ (links-reading.read_outcome form bytes position f v) f v refl refl
    (links-read.read_at_order form bytes position (min (length f) (length v))) refl (λ q e. (sym (front_stops c _ f e), sym (front_stops c _ v e))) p

-- 2 with number 0 for lists of two lengths; then the link writer's, table by table; then 2 for places left over, with the last table's number
pub write_batch : (k : ℕ) (ns counts f v out out' : List ℕ) (r : KemotuikiBytes)
    → Left (crossed of_batched (batch_outcome (link_form (edition_by k)) ns counts f v out)) r out'
    → Refusals
    (of_table 0 (2 ∷ [])
    ++ (gather (from 1 (length (tables ns counts))) (λ m. of_table m (1 ∷ 10 ∷ 2 ∷ 12 ∷ 13 ∷ 17 ∷ 3 ∷ [])) ++ of_table (length (tables ns counts)) (2 ∷ [])))
    (batch_steps (link_form (edition_by k)) ns counts f v (length out)) r.head (out ∷ []) (out' ∷ [])
write_batch k ns counts f v out out' r p =
    let form = link_form (edition_by k) in
    refusals (λ (x : KemotuikiBytes). x.head) of_batched refused_in (λ m q. refl) (batch_numbers_lem form ns counts f v (length out)) refl
    (batch_decides form ns counts f v (length out)).1 p.answered
    (λ s q e. ap (λ (x : List ℕ). x ∷ []) (p.left ∙ batch_unaltered form ns counts f v out s q e))

-- each table's with its own number, without 3; then 15 and 14 with number 0
pub choice : (s t : List ℕ) (r : KemotuikiChoice) → r ≡ of_chosen (choice_either s t)
    → Refusals (of_table 1 (9 ∷ 1 ∷ 10 ∷ 9 ∷ 11 ∷ 12 ∷ 13 ∷ []) ++ (of_table 2 (9 ∷ 1 ∷ 10 ∷ 9 ∷ 11 ∷ 12 ∷ 13 ∷ []) ++ of_table 0 (15 ∷ 14 ∷ [])))
    (choice_steps (link_form_at s 0) (link_form_at t 0) s t) r.head [] []
choice s t r e =
    refusals (λ (x : KemotuikiChoice). x.head) of_chosen refused_in (λ m q. refl) refl refl (choice_decides (link_form_at s 0) (link_form_at t 0) s t).2 e
    (λ a q f. refl)

-- the reader's without 3, then those of the form that is asked for
pub convert_costs : (k : ℕ) (s out out' : List ℕ) (r : KemotuikiBytes) → Left (crossed of_bytes (costs_converted (edition_by k) s out)) r out'
    → Refusals (of_table 0 (9 ∷ 1 ∷ 9 ∷ 11 ∷ 4 ∷ 20 ∷ 17 ∷ 3 ∷ [])) (cost_steps (edition_by k) s (length out)) r.head (out ∷ []) (out' ∷ [])
convert_costs k s out out' r p =
    by_left (λ (x : KemotuikiBytes). x.head) of_bytes Err (λ q. refl) (cost_checks (edition_by k) s (length out)) _ _ out refl refl
    (cost-order (edition_by k) s (length out)) p

pub convert_links : (k : ℕ) (s out out' : List ℕ) (r : KemotuikiBytes) → Left (crossed of_bytes (links_converted (edition_by k) s out)) r out'
    → Refusals (of_table 0 (9 ∷ 1 ∷ 10 ∷ 9 ∷ 11 ∷ 12 ∷ 13 ∷ 17 ∷ 3 ∷ [])) (link_steps (edition_by k) s (length out)) r.head (out ∷ []) (out' ∷ [])
convert_links k s out out' r p =
    by_left (λ (x : KemotuikiBytes). x.head) of_bytes Err (λ q. refl) (link_checks (edition_by k) s (length out)) _ _ out refl refl
    (link_order (edition_by k) s (length out)) p

-- ## Texts

pub refusal-text : (number table a b c d : ℕ) (out out' : List ℕ) (r : KemotuikiBytes)
    → Left (crossed of_bytes (refusal_text_outcome number table a b c d out)) r out'
    → Refusals (of_table 0 (3 ∷ [])) (refusal_text_steps (length out)) r.head (out ∷ []) (out' ∷ [])
refusal-text number table a b c d out out' r p =
    by_left (λ (k : KemotuikiBytes). k.head) of_bytes Err (λ q. refl) (refusal_text_check (length out)) _ _ out refl refl
    (refusal_text_order (length out)) p
