-- How the code meets where the reader stands, and what it is worth. Assumes nothing.
use Rattle.stored_costs.specs.Outcomes.{StoredCosts}
use Rattle.stored_links.specs.Outcomes.{StoredLinks}
use Rattle.std.specs.Prelude.{List, refl, ◌≡◌, ℕ, ◌*◌, ◌+◌, ◌/◌, ◌<◌, ◌≤◌, ltb, drop, length, Err, Ok}
use Rattle.std.proofs.Common.{sym, arith, length-drop}
use borrow.Table.Steps.{cases}
use Rattle.ground.specs.Outcomes.{Left, Outcome}
use Rattle.ground.specs.Refusals.{refusal}
use Rattle.ground.specs.declared.Refusal.{Refusal}
use Rattle.theory.specs.Outcomes.{LeftRows, RowsOutcome}
use Rattle.cost_forms.specs.Form.{cost_form_at}
use Rattle.stored_costs.proofs.Laws.Passed as costs-laws
use Rattle.cost_forms.specs.Laws.Sizes as costs-sizes
use Rattle.stored_costs.proofs.Laws.Told as costs-told
use Rattle.stored_costs.specs.Outcomes as costs-said
use Rattle.stored_costs.specs.Reading as costs-checks
use Rattle.link_forms.specs.Form.{link_form_at}
use Rattle.stored_links.proofs.Laws.Passed as links_passed
use Rattle.stored_links.proofs.Laws.Positions as links-laws
use Rattle.link_forms.specs.Laws.Sizes as links-sizes
use Rattle.stored_links.proofs.Laws.Told as links-told
use Rattle.stored_links.specs.Outcomes as links_said
use Rattle.stored_links.specs.Reading as links-checks
use Rattle.positions.specs.Stands.{behind, costs_taken, counted_bytes, largest_position, links_taken}
use Rattle.bits.specs.declared.Form.{Form}
use Rattle.cost_forms.specs.Sizes.{last_entry_end}
use Rattle.link_forms.specs.Sizes.{last_row_end}

-- ## The byte behind

pub behind_fits : (position used byte : ℕ) → byte ≡ position / 8 + used → byte < counted_bytes → 8 * byte ≡ behind position used
behind_fits position used byte e h = rw e (omega (arith, e))

-- ## Cost tables

pub costs-refused : {o : Outcome StoredCosts} {a : StoredCosts} {e : List ℕ} {r : Refusal} (position : ℕ) → Left o a e → a ≡ Err r
    → Left (costs_taken o position) (record { table = a; position = position }) e
costs-refused position p q = record { answered = rw (← p.answered, q); left = p.left }

pub costs-accepted : {o : Outcome StoredCosts} {a : StoredCosts} {e : List ℕ} {n used stands : ℕ} (position : ℕ) → Left o a e → a ≡ Ok (record { n = n; used = used })
    → stands ≡ behind position used → Left (costs_taken o position) (record { table = Ok (record { n = n; used = used }); position = stands }) e
costs-accepted position p q h = record { answered = rw (← p.answered, q, h); left = p.left }

-- an accepted table stands within the bytes
pub costs-inside : (bytes : List ℕ) (position room n used : ℕ) → costs-said.judged_either bytes position room ≡ Ok (record { n = n; used = used })
    → position / 8 + used ≤ length bytes
costs-inside bytes position room n used e =
    let t = costs-laws.table-at (cost_form_at bytes position) bytes position room n used e in
    omega (arith, t.inside, t.count, rw t.number at t.readable.whole, length-drop (position / 8) bytes)

-- and is short
pub costs-short : (bytes : List ℕ) (position room n used : ℕ) → costs-said.judged_either bytes position room ≡ Ok (record { n = n; used = used })
    → 8 * used ≤ last_entry_end + 7
costs-short bytes position room n used e =
    let form = cost_form_at bytes position in
    let small = costs-told.told_small bytes position in
    let t = costs-laws.table-at form bytes position room n used e in
    let s = costs-laws.readable_held form (drop (position / 8) bytes) room small.0 small.1 t.readable in
    omega (arith, t.count, costs-sizes.end_le form n (rw t.number at s.small))

-- ## Link tables

pub links_refused : {o : RowsOutcome StoredLinks} {a : StoredLinks} {f v : List ℕ} {r : Refusal} (position : ℕ) → LeftRows o a f v → a ≡ Err r
    → LeftRows (links_taken o position) (record { table = a; position = position }) f v
links_refused position p q = record { answered = rw (← p.answered, q); far-sides = p.far-sides; doubled = p.doubled }

pub links_accepted : {o : RowsOutcome StoredLinks} {a : StoredLinks} {f v : List ℕ} {n N used stands : ℕ} (position : ℕ) → LeftRows o a f v
    → a ≡ Ok (record { n = n; count = N; used = used }) → stands ≡ behind position used
    → LeftRows (links_taken o position) (record { table = Ok (record { n = n; count = N; used = used }); position = stands }) f v
links_accepted position p q h = record { answered = rw (← p.answered, q, h); far-sides = p.far-sides; doubled = p.doubled }

pub links_inside : (bytes : List ℕ) (position room n N used : ℕ) → links_said.judged_either bytes position room ≡ Ok (record { n = n; count = N; used = used })
    → position / 8 + used ≤ length bytes
links_inside bytes position room n N used e =
    let t = (links-laws.table-at (link_form_at bytes position) bytes position room n N used e).1 in
    omega (arith, t.inside, t.used_is, t.stored.whole, length-drop (position / 8) bytes)

pub links_short : (bytes : List ℕ) (position room n N used : ℕ) → links_said.judged_either bytes position room ≡ Ok (record { n = n; count = N; used = used })
    → 8 * used ≤ last_row_end + 7
links_short bytes position room n N used e =
    let form = link_form_at bytes position in
    let small = links-told.told_small bytes position in
    let t = (links-laws.table-at form bytes position room n N used e).1 in
    let s = links_passed.stored_held form (drop (position / 8) bytes) n N small.0 small.1 t.stored in
    omega (arith, t.used_is, links-sizes.end_le form n N s.small)

-- ## What it is worth

-- in fewer than 2 ^ 61 bytes the reader stands 8 times the bytes up to the table's end, at the start of a byte
pub stands_behind : (position used : ℕ) → position / 8 + used < counted_bytes → behind position used ≡ 8 * (position / 8 + used)
stands_behind position used h = sym (behind_fits position used (position / 8 + used) refl h)

-- at the largest position nothing is read, however many bytes are lent
pub largest-costs : (form : Form) (bytes : List ℕ) (room : ℕ)
    → costs-checks.read_at_checks form bytes largest_position room ≡ Err (refusal 9 0 0 0 0)
largest-costs form bytes room = cases (ltb (length bytes) (largest_position / 8)) (λ e. rw e) (λ e. rw e)

pub largest_links : (form : Form) (bytes : List ℕ) (room : ℕ)
    → links-checks.read_at_checks form bytes largest_position room ≡ Err (refusal 9 0 0 0 0)
largest_links form bytes room = cases (ltb (length bytes) (largest_position / 8)) (λ e. rw e) (λ e. rw e)
