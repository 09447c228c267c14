-- What a batch wrote reads back as its tables in order, each from the byte where the one before ended. Assumes nothing.
use mathlib.Core.List.{List, [], append_assoc, ◌++◌, ◌∷◌}
use Rattle.std.proofs.Math.Path.{ap, ap₂, sym}
use Rattle.std.specs.Prelude.{refl, ◌≡◌, ℕ, ◌*◌, ◌+◌, ◌-◌, drop, length, take, Ok}
use Rattle.std.proofs.Common.{subst, ◌∙◌}
use native.Mathlib.Omega.{arith}
use Rattle.std.proofs.Math.ListN.{length-append}
use Rattle.ground.specs.Buffers.{front}
use Rattle.ground.specs.Outcomes.{Outcome}
use Rattle.link_forms.specs.Form.{link_bytes, link_form, link_used}
use Rattle.stored_links.proofs.Laws.Told.{either_written, form_limit}
use Rattle.stored_links.specs.Outcomes.{read_either}
use Rattle.batch.specs.Batch.{batch_answer, batch_outcome, Batched}
use Rattle.joined_tables.specs.Bytes.{batch_bytes}
use Rattle.joined_tables.specs.Fitting.{BatchFits}
use Rattle.batch.specs.Laws.Answers.{accepted_writes, batch_accepted}
use Rattle.joined_tables.specs.Laws.Next.{length-next}
use Rattle.joined_tables.specs.Tables.{Table, tables}
use Rattle.bits.specs.declared.Edition.{Edition}
use Rattle.bits.specs.declared.Form.{Form}
use Rattle.batch.specs.ReadBack.{ReadsBack}

module _ (e : Edition) (bytes behind : List ℕ) (end : ℕ) where
  form : Form
  form = link_form e

  reads_from : (ahead : List ℕ) (k : ℕ) (ts : List Table) (l v : List ℕ) (room : ℕ) → BatchFits form ts l v room → k ≡ length ahead
      → end ≡ length ahead + length (batch_bytes form ts l v) → bytes ≡ ahead ++ (batch_bytes form ts l v ++ behind) → ReadsBack form bytes end k ts l v
  unfolding ReadsBack BatchFits batch_bytes form
  reads_from ahead k [] l v room g p h q = omega arith
  reads_from ahead k (t ∷ ts) l v room g p h q =
      let x = link_used form t.0 t.1 in
      let m = link_bytes form t.0 (take t.1 l) (take t.1 v) in
      let r = batch_bytes form ts (drop t.1 l) (drop t.1 v) in
      let lm = length-next form t.0 t.1 l v room g.0 in
      let b : bytes ≡ ahead ++ (m ++ (r ++ behind)) = q ∙ ap (λ (z : List ℕ). ahead ++ z) (append_assoc m r behind) in (
        λ f u c d.
            ap₂ (λ (y : List ℕ) (j : ℕ). read_either y (8 * j) f u) b p
            ∙ either_written e t.0 t.1 (take t.1 l) (take t.1 v) ahead (r ++ behind) f u g.0.links c d,
        reads_from (ahead ++ m) (k + x) ts (drop t.1 l) (drop t.1 v) (room - x) g.1 (omega (arith, length-append ahead m, lm))
            (omega (arith, h, length-append ahead m, length-append m r))
            (b ∙ sym (append_assoc ahead m (r ++ behind))),
      )

-- the lent bytes, as an accepted batch leaves them, are read as its tables, whichever form it was told, and the last ends where the used bytes end
pub batch_reads_back : (e : Edition) (ns counts l v out : List ℕ) (used : ℕ) → batch_answer (link_form e) ns counts l v (length out) ≡ Ok used
    → ReadsBack (link_form e) (batch_outcome (link_form e) ns counts l v out).places used 0 (tables ns counts) l v
unfolding form
batch_reads_back e ns counts l v out used h =
    let f = link_form e in
    let m = batch_bytes f (tables ns counts) l v in
    let a = (batch_accepted f ns counts l v (form_limit e) (length out) used).0 h in
    subst (λ (o : Outcome Batched). ReadsBack f o.places used 0 (tables ns counts) l v) (sym (accepted_writes f ns counts l v out used h))
    (reads_from e (front m out) (drop (length m) out) used [] 0 (tables ns counts) l v (length out) a.1 refl (omega (arith, a.2)) refl)
