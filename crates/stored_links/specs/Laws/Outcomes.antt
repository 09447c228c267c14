-- What the answer of a reader says of its checks. Assumes nothing.
use Rattle.ground.specs.Refusals.{Check}
use Rattle.std.specs.Prelude.{List, refl, ◌≡◌, ℕ, drop, length, take, Ok, Err}
use Rattle.std.proofs.Common.{ap, arith, take_at}
use Rattle.ground.specs.Buffers.{front}
use Rattle.ground.specs.declared.Refusal.{Refusal}
use Rattle.stored_links.specs.Outcomes.{rows_if, table_if}
use Rattle.bits.specs.declared.Form.{Form}
use Rattle.stored_links.specs.declared.LinksRead.{LinksRead}

pub table-passed : (c : Check) (m M v n N used : ℕ) → table_if c m M v ≡ Ok (record { n = n; count = N; used = used }) → (c ≡ Ok tt) × (m ≡ n) × (M ≡ N) × (v ≡ used)
table-passed (Ok u) m M v n N used e =
    let q : ◌≡◌ {A = LinksRead} (record { n = m; count = M; used = v }) (record { n = n; count = N; used = used }) = cc in
    (refl, ap (λ (x : LinksRead). x.n) q, ap (λ (x : LinksRead). x.count) q, ap (λ (x : LinksRead). x.used) q)
table-passed (Err r) m M v n N used e = absurd (let q : ◌≡◌ {A = ℕ} 0 1 = cc in omega arith)

pub table-refused : (c : Check) (m M v : ℕ) (r : Refusal) → table_if c m M v ≡ Err r → c ≡ Err r
table-refused (Ok tt) m M v r e = absurd (let q : ◌≡◌ {A = ℕ} 0 1 = cc in omega arith)
table-refused (Err q) m M v r e = let z : q ≡ r = cc in ap Err z

-- refused, nothing is altered
pub refused_alters_nothing : {c : Check} {r : Refusal} (form : Form) (s f v : List ℕ) → c ≡ Err r
    → rows_if c form s f v ≡ record { answer = Err r; far_list = f; cost_list = v }
refused_alters_nothing form s f v e = rw e

-- the front that was written, taken again
pub front-taken : (k : ℕ) (m d e : List ℕ) → length m ≡ k → e ≡ front m d → take k e ≡ m
front-taken k m d e h q = rw q (take_at m (drop (length m) d) k h)
