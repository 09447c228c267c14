-- Both forms of a stored cost table: what they have in common, and that what was written in either is read in it. Assumes nothing.
use Rattle.std.specs.Prelude.{List, ◌++◌, refl, ◌≡◌, ℕ, ◌*◌, ◌/◌, ◌<◌, ◌^◌, ◌≤◌, drop, length}
use Rattle.std.proofs.Common.{ap, sym, ◌∙◌, arith}
use Rattle.std.proofs.Math.Seq.{drop-append_seam}
use Rattle.theory.specs.Tables.{CostTable, cost, limit}
use Rattle.bits.specs.Editions.{Marked, ToldApart, edition_of}
use Rattle.bits.specs.Laws.Editions.{told_form, told_marked}
use Rattle.bits.specs.declared.Edition.{Edition}
use Rattle.bits.specs.declared.Edition.TheVariants.{New, Old}
use Rattle.cost_forms.specs.Form.{cost_bytes, cost_form, cost_form_at, cost_used}
use Rattle.cost_forms.specs.Laws.Form.{bits_costs_then}
use Rattle.stored_costs.proofs.Laws.Positions.{read_rest, written_at}
use Rattle.stored_costs.specs.Outcomes.{read_either, read_outcome}
use Rattle.stored_costs.specs.Stored.{read_into}

pub costs-apart : ToldApart cost_form
costs-apart = record { plain = (refl, refl); marked = (refl, refl) }

-- a short mark, and numbers in which every entry within the form's limit has place, which is never above that of cost tables
pub form_small : (e : Edition) → ((cost_form e).head ≤ 7) × ((cost_form e).width ≤ 32)
form_small Old = (omega arith, omega arith)
form_small New = (omega arith, omega arith)

pub form_fits : (e : Edition) → (cost_form e).limit < 2 ^ (cost_form e).width
form_fits Old = omega arith
form_fits New = omega arith

pub form_limit : (e : Edition) → (cost_form e).limit ≤ limit
form_limit Old = omega arith
form_limit New = omega arith

pub told_small : (bytes : List ℕ) (position : ℕ) → ((cost_form_at bytes position).head ≤ 7) × ((cost_form_at bytes position).width ≤ 32)
told_small bytes position = form_small (edition_of (drop (position / 8) bytes))

-- the mark of the form that is told stands in front
pub costs-marked : (bytes : List ℕ) (position : ℕ) → Marked (cost_form_at bytes position) (drop (position / 8) bytes)
costs-marked bytes position = told_marked cost_form costs-apart (drop (position / 8) bytes)

-- what is stored tells its form
pub told_costs : (e : Edition) (n : ℕ) (d : ℕ → ℕ → ℕ) (behind : List ℕ) → n ≤ 64 → edition_of (cost_bytes (cost_form e) n d ++ behind) ≡ e
told_costs e n d behind h =
    told_form cost_form costs-apart e n (cost_bytes (cost_form e) n d ++ behind) _ (omega arith) (bits_costs_then (cost_form e) n d behind)

-- what stands at the start of byte k is read in the form that it tells
pub either_at : (bytes s : List ℕ) (k : ℕ) (e : Edition) (out : List ℕ) → drop k bytes ≡ s → edition_of s ≡ e
    → read_either bytes (8 * k) out ≡ read_outcome (cost_form e) bytes (8 * k) out
either_at bytes s k e out h q =
    let m : 8 * k / 8 ≡ k = omega arith in
    ap (λ (x : Edition). read_outcome (cost_form x) bytes (8 * k) out) (ap (λ (x : ℕ). edition_of (drop x bytes)) m ∙ ap edition_of h ∙ q)

-- reading what was written in either form gives the table back, whatever stands ahead and behind
pub either_written : (e : Edition) (n : ℕ) (t ahead behind out : List ℕ) → CostTable (cost_form e).limit n t → n * n ≤ length out
    → read_either (ahead ++ (cost_bytes (cost_form e) n (cost t n) ++ behind)) (8 * length ahead) out ≡ read_into n (cost_used (cost_form e) n) t out
either_written e n t ahead behind out c h =
    let s = cost_bytes (cost_form e) n (cost t n) ++ behind in
    either_at (ahead ++ s) s (length ahead) e out (drop-append_seam ahead s) (told_costs e n (cost t n) behind c.few)
    ∙ written_at (cost_form e) n t ahead behind out c (form_fits e) h

-- the rest of the bytes, from byte k on, reads as the whole does at that byte
pub either_rest : (bytes : List ℕ) (k : ℕ) (out : List ℕ) → k ≤ length bytes → read_either (drop k bytes) 0 out ≡ read_either bytes (8 * k) out
either_rest bytes k out h =
    let m : 8 * k / 8 ≡ k = omega arith in
    read_rest (cost_form (edition_of (drop k bytes))) bytes k out h
    ∙ ap (λ (x : ℕ). read_outcome (cost_form (edition_of (drop x bytes))) bytes (8 * k) out) (sym m)
