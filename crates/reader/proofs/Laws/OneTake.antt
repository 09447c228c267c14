-- A reader takes a table: where it then stands, and that the table is the one that the bytes from there on begin with. Below, bytes are
-- fewer than 2 ^ 61, so that every bit has a number. Assumes nothing.
use Rattle.stored_costs.specs.Outcomes.{StoredCosts}
use Rattle.stored_links.specs.Outcomes.{StoredLinks}
use Rattle.std.specs.Prelude.{List, ◌≡◌, min, ℕ, ◌*◌, ◌+◌, ◌/◌, ◌<◌, ◌≤◌, drop, length, Ok, Err}
use Rattle.std.proofs.Common.{ap, sym, ◌∙◌, arith}
use Rattle.ground.specs.Laws.Outcomes.{front_stops}
use Rattle.ground.specs.Outcomes.{Left, Outcome}
use Rattle.ground.specs.declared.Refusal.{Refusal}
use Rattle.theory.specs.Outcomes.{LeftRows, RowsOutcome}
use Rattle.stored_costs.proofs.Laws.Passed.{judged-refused}
use Rattle.stored_costs.proofs.Laws.Told as costs-told
use Rattle.stored_costs.specs.Outcomes as costs-said
use Rattle.stored_links.proofs.Laws.Positions.{refused-at}
use Rattle.stored_links.proofs.Laws.Told as links-told
use Rattle.stored_links.specs.Outcomes as links_said
use Rattle.positions.proofs.Laws.Stands.{costs-inside, links_inside, stands_behind}
use Rattle.positions.specs.Stands.{after_costs, after_links, counted_bytes}
use Rattle.reader.specs.Moves.{costs_here, costs_moved, links_here, links_moved, standing}
use Rattle.reader.specs.declared.Reader.{Reader}
use Rattle.cost_forms.specs.Form.{cost_form_at}
use Rattle.link_forms.specs.Form.{link_form_at}

-- ## One take: where the reader is left, and what it answers

costs-left : (d e : Reader) (f : List ℕ) (x : StoredCosts) (k : List ℕ) → Left (costs_moved d f) (e, x) k
    → (e ≡ standing d (costs_here d f).answer.position) × (x ≡ (costs_here d f).answer.table)
costs-left d e f x k p = (ap (λ (z : Reader × StoredCosts). z.0) p.answered, ap (λ (z : Reader × StoredCosts). z.1) p.answered)

links_left : (d e : Reader) (f v : List ℕ) (x : StoredLinks) (g u : List ℕ) → LeftRows (links_moved d f v) (e, x) g u
    → (e ≡ standing d (links_here d f v).answer.position) × (x ≡ (links_here d f v).answer.table)
links_left d e f v x g u p = (ap (λ (z : Reader × StoredLinks). z.0) p.answered, ap (λ (z : Reader × StoredLinks). z.1) p.answered)

-- after an accepted table the reader stands at the byte behind it
pub costs-behind : (d e : Reader) (f : List ℕ) (x : StoredCosts) (k : List ℕ) (n used : ℕ) → Left (costs_moved d f) (e, x) k → x ≡ Ok (record { n = n; used = used })
    → length d.bytes.now < counted_bytes
    → (d.position / 8 + used ≤ length d.bytes.now) × (e ≡ standing d (8 * (d.position / 8 + used)))
costs-behind d e f x k n used p h l =
    let c = costs-left d e f x k p in
    let a : (costs_here d f).answer.table ≡ Ok (record { n = n; used = used }) = sym c.1 ∙ h in
    let i = costs-inside d.bytes.now d.position (length f) n used a in
    (i, c.0 ∙ ap (λ (y : StoredCosts). standing d (after_costs y d.position)) a ∙ ap (standing d) (stands_behind d.position used (omega (arith, i, l))))

pub links_behind : (d e : Reader) (f v : List ℕ) (x : StoredLinks) (g u : List ℕ) (n N used : ℕ) → LeftRows (links_moved d f v) (e, x) g u
    → x ≡ Ok (record { n = n; count = N; used = used }) → length d.bytes.now < counted_bytes
    → (d.position / 8 + used ≤ length d.bytes.now) × (e ≡ standing d (8 * (d.position / 8 + used)))
links_behind d e f v x g u n N used p h l =
    let c = links_left d e f v x g u p in
    let a : (links_here d f v).answer.table ≡ Ok (record { n = n; count = N; used = used }) = sym c.1 ∙ h in
    let i = links_inside d.bytes.now d.position _ n N used a in
    (i, c.0 ∙ ap (λ (y : StoredLinks). standing d (after_links y d.position)) a ∙ ap (standing d) (stands_behind d.position used (omega (arith, i, l))))

-- after a refusal where it stood, and the lent places are as they were
pub costs_stay : (d e : Reader) (f : List ℕ) (x : StoredCosts) (k : List ℕ) (r : Refusal) → Left (costs_moved d f) (e, x) k → x ≡ Err r
    → (e ≡ d) × (k ≡ f)
costs_stay d e f x k r p h =
    let c = costs-left d e f x k p in
    let a : (costs_here d f).answer.table ≡ Err r = sym c.1 ∙ h in
    let stops = judged-refused (cost_form_at d.bytes.now d.position) d.bytes.now d.position (length f) r a in
    (c.0 ∙ ap (λ (y : StoredCosts). standing d (after_costs y d.position)) a, p.left ∙ sym (front_stops _ _ f stops))

pub links_stay : (d e : Reader) (f v : List ℕ) (x : StoredLinks) (g u : List ℕ) (r : Refusal) → LeftRows (links_moved d f v) (e, x) g u
    → x ≡ Err r → (e ≡ d) × (g ≡ f) × (u ≡ v)
links_stay d e f v x g u r p h =
    let c = links_left d e f v x g u p in
    let a : (links_here d f v).answer.table ≡ Err r = sym c.1 ∙ h in
    let stops = refused-at (link_form_at d.bytes.now d.position) d.bytes.now d.position (min (length f) (length v)) r a in (
      c.0 ∙ ap (λ (y : StoredLinks). standing d (after_links y d.position)) a,
      p.far-sides ∙ sym (front_stops _ _ f stops),
      p.doubled ∙ sym (front_stops _ _ v stops),
    )

-- ## The next take: at the start of byte k the table is that of the part of the bytes from there on

pub costs_there : (d e : Reader) (k : ℕ) (g : List ℕ) (y : StoredCosts) (l : List ℕ) → Left (costs_moved d g) (e, y) l → d.position ≡ 8 * k
    → k ≤ length d.bytes.now → Left (costs-said.read_either (drop k d.bytes.now) 0 g) y l
costs_there d e k g y l p h i =
    let b = d.bytes.now in
    let there = ap (λ (z : ℕ). costs-said.read_either b z g) h ∙ sym (costs-told.either_rest b k g i) in
    record {
      answered = (costs-left d e g y l p).1 ∙ ap (λ (o : Outcome StoredCosts). o.answer) there;
      left = p.left ∙ ap (λ (o : Outcome StoredCosts). o.places) there;
    }

pub links_there : (d e : Reader) (k : ℕ) (f v : List ℕ) (y : StoredLinks) (g u : List ℕ) → LeftRows (links_moved d f v) (e, y) g u → d.position ≡ 8 * k
    → k ≤ length d.bytes.now → LeftRows (links_said.read_either (drop k d.bytes.now) 0 f v) y g u
links_there d e k f v y g u p h i =
    let b = d.bytes.now in
    let there = ap (λ (z : ℕ). links_said.read_either b z f v) h ∙ sym (links-told.either_rest b k f v i) in
    record {
      answered = (links_left d e f v y g u p).1 ∙ ap (λ (o : RowsOutcome StoredLinks). o.answer) there;
      far-sides = p.far-sides ∙ ap (λ (o : RowsOutcome StoredLinks). o.far_list) there;
      doubled = p.doubled ∙ ap (λ (o : RowsOutcome StoredLinks). o.cost_list) there;
    }
