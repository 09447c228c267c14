-- A batch is accepted exactly when every table passes and nothing is left over; refused, nothing is altered; and no second answer meets the promise.
-- Assumes nothing.
use Rattle.std.specs.Prelude.{not, ◌↔◌, ◌≡◌, ℕ, ◌+◌, ◌-◌, ◌≤◌, eqb, drop, length, take, Ok}
use mathlib.Core.List.{List, [], ◌∷◌}
use Rattle.std.proofs.Math.Path.{ap}
use Rattle.std.proofs.Common.{◌∙◌, arith, eq-eqb, eqb-true}
use Rattle.std.proofs.Math.ListN.{length-append}
use Rattle.std.proofs.lemmas.Bool.{not-false}
use Rattle.ground.specs.Buffers.{front}
use Rattle.ground.specs.Outcomes.{Left}
use Rattle.ground.specs.Laws.Outcomes.{left_once}
use Rattle.ground.specs.Refusals.{refusal, refuse_if, Check, refused_in}
use Rattle.ground.specs.Laws.Refusals.{refuse_if-passed}
use Rattle.ground.specs.declared.Refusal.{Refusal}
use Rattle.ground.specs.Laws.Refusals.{if_accepted}
use Rattle.theory.specs.Tables.{limit}
use Rattle.link_forms.specs.Form.{link_bytes, link_used}
use Rattle.batch.specs.Batch.{batch_answer, batch_from, batch_outcome, front_by, numbered, Batched}
use Rattle.joined_tables.specs.Bytes.{batch_bytes}
use Rattle.joined_tables.specs.Fitting.{BatchFits}
use Rattle.joined_tables.specs.Laws.Next.{left_over_passed, length-next, next-passed, passed-next}
use Rattle.joined_tables.specs.Tables.{Table, left_over_checks, next_checks, tables}
use Rattle.bits.specs.declared.Form.{Form}

-- ## A check with a table's number

pub numbered-bytes : (k : ℕ) (y : Check) (b : Batched) (u : ℕ) → numbered k y b ≡ Ok u → (y ≡ Ok tt) × (b ≡ Ok u)
numbered-bytes k y b u = if_accepted (refused_in k) y b (λ r q. absurd (let z : ◌≡◌ {A = ℕ} 0 1 = cc in omega arith))

bytes_same : (x y : ℕ) → ◌≡◌ {A = Batched} (Ok x) (Ok y) → x ≡ y
bytes_same x y e = cc

-- ## What is left of the lent bytes

pub by_stops : {a : Batched} {k : ℕ} {r : Refusal} (b : Batched) (m d : List ℕ) → a ≡ refused_in k r → a ≡ b → d ≡ front_by b m d
by_stops b m d e f = rw (← f, e)

pub by_goes : {a : Batched} {u : ℕ} (b : Batched) (m d e : List ℕ) → a ≡ Ok u → a ≡ b → e ≡ front m d → e ≡ front_by b m d
by_goes b m d e p q h = rw (← q, p) h

-- ## The whole batch

module _ (form : Form) where
  pub from_fits : (k used : ℕ) (ts : List Table) (l v : List ℕ) (room u : ℕ) → batch_from form k used ts l v room ≡ Ok u
      → BatchFits form ts l v room × (u ≡ used + length (batch_bytes form ts l v))
  unfolding batch_from batch_bytes BatchFits
  from_fits k used [] l v room u e =
      let p = numbered-bytes k (left_over_checks l v) (Ok used) u e in
      (left_over_passed l v p.0, omega (arith, bytes_same used u p.1))
  from_fits k used (t ∷ ts) l v room u e =
      let x = link_used form t.0 t.1 in
      let m = link_bytes form t.0 (take t.1 l) (take t.1 v) in
      let p = numbered-bytes (k + 1) (next_checks form t.0 t.1 l v room)
      (batch_from form (k + 1) (used + x) ts (drop t.1 l) (drop t.1 v) (room - x)) u e in
      let s = next-passed form t.0 t.1 l v room p.0 in
      let r = from_fits (k + 1) (used + x) ts (drop t.1 l) (drop t.1 v) (room - x) u p.1 in
      ((s, r.0), omega (arith, r.1, length-next form t.0 t.1 l v room s, length-append m (batch_bytes form ts (drop t.1 l) (drop t.1 v))))

  pub fits_from : form.limit ≤ limit → (k used : ℕ) (ts : List Table) (l v : List ℕ) (room : ℕ) → BatchFits form ts l v room
      → batch_from form k used ts l v room ≡ Ok (used + length (batch_bytes form ts l v))
  unfolding batch_from batch_bytes BatchFits
  fits_from w k used [] l v room f = rw (f.0, f.1) (ap Ok (omega arith))
  fits_from w k used (t ∷ ts) l v room f =
      let x = link_used form t.0 t.1 in
      let m = link_bytes form t.0 (take t.1 l) (take t.1 v) in
      let ih = fits_from w (k + 1) (used + x) ts (drop t.1 l) (drop t.1 v) (room - x) f.1 in
      rw (passed-next form t.0 t.1 l v room w f.0)
      (ih ∙ ap Ok (omega (arith, length-next form t.0 t.1 l v room f.0, length-append m (batch_bytes form ts (drop t.1 l) (drop t.1 v)))))

  module _ (ns counts l v : List ℕ) where
    -- accepted, with these bytes: two lists of one length, every table a link table that has its rows and room, and nothing left over
    pub batch_accepted : form.limit ≤ limit → (room u : ℕ) → (batch_answer form ns counts l v room ≡ Ok u)
        ↔ ((length ns ≡ length counts) × BatchFits form (tables ns counts) l v room × (u ≡ length (batch_bytes form (tables ns counts) l v)))
    batch_accepted w room u = (into, out)
      where
        into : batch_answer form ns counts l v room ≡ Ok u
            → (length ns ≡ length counts) × BatchFits form (tables ns counts) l v room × (u ≡ length (batch_bytes form (tables ns counts) l v))
        into e =
            let p = numbered-bytes 0 (refuse_if (not (eqb (length ns) (length counts))) (refusal 2 0 0 0 0))
            (batch_from form 0 0 (tables ns counts) l v room) u e in
            let q = from_fits 0 0 (tables ns counts) l v room u p.1 in
            (eqb-true (length ns) (length counts) (not-false _ (refuse_if-passed (not (eqb (length ns) (length counts))) _ p.0)), q.0, omega (arith, q.1))

        out : (length ns ≡ length counts) × BatchFits form (tables ns counts) l v room × (u ≡ length (batch_bytes form (tables ns counts) l v))
            → batch_answer form ns counts l v room ≡ Ok u
        out t = rw (eq-eqb (length ns) (length counts) t.0) (fits_from w 0 0 (tables ns counts) l v room t.1 ∙ ap Ok (omega (arith, t.2)))

    -- accepted, the tables' stored forms stand joined at the front, and no other byte is written
    pub accepted_writes : (out : List ℕ) (u : ℕ) → batch_answer form ns counts l v (length out) ≡ Ok u
        → batch_outcome form ns counts l v out ≡ record { answer = Ok u; places = front (batch_bytes form (tables ns counts) l v) out }
    accepted_writes out u e = rw e

    -- refused, nothing is altered
    pub refused_alters_nothing : (out : List ℕ) (k : ℕ) (r : Refusal) → batch_answer form ns counts l v (length out) ≡ refused_in k r
        → batch_outcome form ns counts l v out ≡ record { answer = refused_in k r; places = out }
    refused_alters_nothing out k r e = rw e

    -- no second answer, and no second content of the lent bytes, meets the promise
    pub batch_once : (out : List ℕ) {a b : Batched} {d e : List ℕ} → Left (batch_outcome form ns counts l v out) a d
        → Left (batch_outcome form ns counts l v out) b e → (a ≡ b) × (d ≡ e)
    batch_once out p q = left_once p q
