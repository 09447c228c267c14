-- What an accepted conversion of a stored link table says, and when one is accepted. Assumes nothing.
use Rattle.std.specs.Prelude.{List, ◌↔◌, ◌≡◌, ℕ, ◌*◌, ◌≤◌, get_or, length, take, Ok, Err}
use Rattle.std.proofs.Common.{ap, sym, ◌∙◌, arith, le-ltb, replicate}
use lib.ListN.{length-replicate}
use Rattle.ground.specs.Buffers.{front}
use Rattle.ground.specs.Outcomes.{Left, front_if, wrote_into}
use Rattle.ground.specs.Refusals.{Check, Written}
use Rattle.ground.specs.Laws.Refusals.{if_accepted, then_passed}
use Rattle.theory.specs.Outcomes.{LeftRows}
use Rattle.theory.specs.Tables.{limit}
use Rattle.bits.specs.Editions.{edition_of}
use Rattle.bits.specs.declared.Edition.{Edition}
use Rattle.links.specs.Laws.FirstChecks.{passed_first}
use Rattle.links.specs.Laws.LinkChecks.{link_rows}
use Rattle.links.specs.Links.{Links}
use Rattle.link_forms.specs.Form.{link_bytes, link_form, link_form_at, link_used}
use Rattle.stored_links.proofs.Laws.Enough.{LinksRead, LinksStored, front_read, links_said}
use Rattle.stored_links.proofs.Laws.Told.{form_limit}
use Rattle.stored_links.specs.Outcomes.{read_either}
use Rattle.stored_links.specs.Reading.{table_checks}
use Rattle.link_writer.specs.Laws.Accepted.{passed_store, store_passed}
use Rattle.link_writer.specs.Laws.Fitting.{links_narrow, links_wide}
use Rattle.link_writer.specs.Writing.{large, store_checks, store_outcome, stored_if}
use Rattle.conversion.specs.Links.{Begins, CostsFit, costs_said, count_said, fars_said, images_said, link_checks, links_converted, used_in}

-- what s begins with is a link table
pub begins-table : (s : List ℕ) → Begins s → Links limit (images_said s) (count_said s) (fars_said s) (costs_said s)
begins-table s b =
    links_wide (link_form_at s 0).limit (images_said s) (count_said s) (fars_said s) (costs_said s) limit (form_limit (edition_of s))
    (links_said (link_form_at s 0) s b)

-- a conversion to the form e that was accepted with u bytes
pub record Converted (e : Edition) (s out : List ℕ) (u : ℕ) (out' : List ℕ) : Type 0 where
  pub begins : Begins s
  pub table : Links (link_form e).limit (images_said s) (count_said s) (fars_said s) (costs_said s)
  pub used : used_in e s ≡ u
  pub left : out' ≡ front (link_bytes (link_form e) (images_said s) (fars_said s) (costs_said s)) out

places_same : (a b : ℕ) → ◌≡◌ {A = Written} (Ok a) (Ok b) → a ≡ b
places_same a b q = cc

-- costs that fit, said of the table, and the other way round
pub fitting : (e : Edition) (s : List ℕ) → Begins s
    → (CostsFit e s ↔ Links (link_form e).limit (images_said s) (count_said s) (fars_said s) (costs_said s))
fitting e s b =
    let L = (link_form e).limit in
    let l = fars_said s in
    let v = costs_said s in
    let t = begins-table s b in (
      λ h. links_narrow L (images_said s) (count_said s) l v limit t
          (passed_first 17 (large L v) (length v) (λ k i. le-ltb (2 * L) (get_or v k 0) (h k i))),
      λ c k i. (link_rows L (images_said s) l v (t.counted ∙ sym t.costed) c.table k (omega (arith, i, t.counted, t.costed))).small,
    )

-- what is stored as a table in the form e, and what begins with one, by the checks of the form g
pub stored_table_lem : (e g : Edition) (n N : ℕ) (l v x more : List ℕ) → LinksStored e n N l v x
    → links_converted g x more ≡ stored_if (store_checks (link_form g) n l v (length more)) (link_form g) n l v more
stored_table_lem e g n N l v x more d = rw (d.told, d.passed, d.images, d.counted, d.far-sides, d.doubled)

pub begun-table : (g : Edition) (s more : List ℕ) → Begins s
    → links_converted g s more ≡ stored_if (store_checks (link_form g) (images_said s) (fars_said s) (costs_said s) (length more)) (link_form g) (images_said s)
    (fars_said s) (costs_said s) more
begun-table g s more b = rw b

module _ (e : Edition) (s out : List ℕ) where
  pub converted : (u : ℕ) (out' : List ℕ) → Left (links_converted e s out) (Ok u) out' → Converted e s out u out'
  converted u out' p =
      let n = images_said s in
      let l = fars_said s in
      let v = costs_said s in
      let q = if_accepted Err (link_checks e s (length out)) (Ok (link_used (link_form e) n (length l)))
      (λ r z. absurd (let o : ◌≡◌ {A = ℕ} 0 1 = cc in omega arith)) (sym p.answered) in
      let k = then_passed (table_checks (link_form_at s 0) s) (store_checks (link_form e) n l v (length out)) q.0 in
      let w = store_passed (link_form e) n (count_said s) l v (length out) k.1 in
      let t = begins-table s k.0 in
      record {
        begins = k.0;
        table = links_narrow (link_form e).limit n (count_said s) l v limit t w.0;
        used = ap (link_used (link_form e) n) (sym t.counted) ∙ places_same (link_used (link_form e) n (length l)) u q.1;
        left = p.left ∙ ap (λ (c : Check). front_if c (link_bytes (link_form e) n l v) out) q.0;
      }

  -- what begins with a table within the form's limit is converted, where there is room
  pub accepted : Begins s → Links (link_form e).limit (images_said s) (count_said s) (fars_said s) (costs_said s) → used_in e s ≤ length out
      → links_converted e s out ≡ wrote_into (used_in e s) (link_bytes (link_form e) (images_said s) (fars_said s) (costs_said s)) out
  accepted b t h =
      let q : link_used (link_form e) (images_said s) (length (fars_said s)) ≡ used_in e s = ap (link_used (link_form e) (images_said s)) t.counted in
      begun-table e s out b
      ∙ rw (passed_store (link_form e) (images_said s) (count_said s) (fars_said s) (costs_said s) (length out) t (rw q h))
      (ap (λ (x : ℕ). wrote_into x (link_bytes (link_form e) (images_said s) (fars_said s) (costs_said s)) out) q)

-- ## As the code goes: the table is read into arrays with room for every table, and what was read is stored

-- an array as it was made
abbrev made : List ℕ
made = replicate 128 0

enough : 125 ≤ length made
enough = omega (arith, length-replicate {A = ℕ} 128 0)

module _ (s f' v' : List ℕ) (n N used : ℕ) (p : LeftRows (read_either s 0 made made) (Ok (record { n = n; count = N; used = used })) f' v') where
  read : LinksRead s made made f' v' enough enough n N
  read = front_read s made made f' v' enough enough n N used p

  pub read_table : Links limit n (length (take N f')) (take N f') (take N v')
  read_table =
      let t = rw (read.images, read.counted) at (begins-table s read.passed) in
      rw (read.far-sides, read.doubled, t.counted) t

  pub read_stored : (e : Edition) {w : Written} (out : List ℕ) {out' : List ℕ}
      → Left (store_outcome (link_form e) n (take N f') (take N v') out) w out' → Left (links_converted e s out) w out'
  read_stored e out q = rw (read.passed, read.images, read.counted, ← read.far-sides, ← read.doubled) q
