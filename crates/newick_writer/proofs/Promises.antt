-- What document 02 says of writing Newick text, in the words of the call: what was answered, and what it left in the lent bytes. N is the row
-- count, l the far sides, v the doubled costs. Assumes nothing.
use Rattle.std.specs.Prelude.{List, ◌++◌, ◌↔◌, refl, ◌≡◌, ℕ, ◌*◌, ◌-◌, ◌≤◌, drop, length, take, Ok, Err}
use Rattle.std.proofs.Common.{ap, subst, sym, ◌∙◌, arith, drop_at, take_at, le-ltb}
use Rattle.ground.specs.Laws.Refusals.{then_passed}
use Rattle.ground.specs.Outcomes.{Left, front_if, wrote_into}
use Rattle.ground.specs.Refusals.{room_check, Check}
use Rattle.ground.specs.declared.Refusal.{Refusal}
use Rattle.theory.specs.LinkTables.{rows_of}
use Rattle.theory.specs.Tables.{limit}
use Rattle.links.specs.Laws.LinkChecks.{link_checks_lem}
use Rattle.links.specs.Links.{Links}
use Rattle.newick_text.proofs.Laws.Reading.{read_written}
use Rattle.newick_text.specs.Reading.{read_checks, tree_in}
use Rattle.newick_text.specs.Tables.{table_of}
use Rattle.newick_writer.specs.Bytes.{longest_text}
use Rattle.newick_writer.proofs.Laws.Accepted.{room-passed, said_places, said_refused}
use Rattle.newick_writer.specs.Laws.Longest.{text_longest}
use Rattle.newick_writer.specs.Writing.{table_checks, write_checks, write_outcome}
pub use Rattle.newick_writer.specs.Promises.{text_of, Wrote}

module _ (n N : ℕ) (l v : List ℕ) where
  -- ## Which calls are accepted: exactly those with a link table, and room for its text

  accepted_links : (room : ℕ) → write_checks n N l v room ≡ Ok tt → Links limit n N l v × (length (text_of l v) ≤ room)
  accepted_links room e =
      let p = then_passed (table_checks n N l v) (room_check (length (text_of l v)) room) e in
      ((link_checks_lem limit n N l v).0 p.0, room-passed (length (text_of l v)) room p.1)

  links_accepted : (room : ℕ) → Links limit n N l v → length (text_of l v) ≤ room → write_checks n N l v room ≡ Ok tt
  links_accepted room t h = rw ((link_checks_lem limit n N l v).1 t, le-ltb room (length (text_of l v)) h) refl

  pub write_accepted : (room : ℕ) → (write_checks n N l v room ≡ Ok tt) ↔ (Links limit n N l v × (length (text_of l v) ≤ room))
  write_accepted room = (accepted_links room, λ p. links_accepted room p.0 p.1)

  -- a link table is written where there is room: the answer is how many bytes its text has, which stand in front, and the rest is as it was
  pub written : (out : List ℕ) → Links limit n N l v → length (text_of l v) ≤ length out
      → write_outcome n N l v out ≡ wrote_into (length (text_of l v)) (text_of l v) out
  written out t h = rw (links_accepted (length out) t h) refl

  -- refused, no lent byte is altered; which refusal comes first is `write_order` in `InOrder`
  pub write_refused : (out : List ℕ) (r : Refusal) → write_checks n N l v (length out) ≡ Err r
      → write_outcome n N l v out ≡ record { answer = Err r; places = out }
  write_refused out r e = rw e refl

  -- ## What a call left

  pub wrote : (out : List ℕ) (k : ℕ) (e : List ℕ) → Left (write_outcome n N l v out) (Ok k) e → Wrote n N l v out k e
  wrote out k e w =
      let s = said_places (write_checks n N l v (length out)) (length (text_of l v)) k w.answered in
      let a = accepted_links (length out) s.0 in
      let u = s.1 in
      let f : e ≡ text_of l v ++ drop (length (text_of l v)) out = w.left ∙ ap (λ (y : Check). front_if y (text_of l v) out) s.0 in
      record {
        table = a.0;
        used = u;
        room = omega (arith, u, a.1);
        front = ap (take k) f ∙ take_at (text_of l v) (drop (length (text_of l v)) out) k (sym u);
        rest = ap (drop k) f ∙ drop_at (text_of l v) (drop (length (text_of l v)) out) k (sym u) ∙ ap (λ (x : ℕ). drop x out) (sym u);
      }

  pub left-refused : (out : List ℕ) (r : Refusal) (e : List ℕ) → Left (write_outcome n N l v out) (Err r) e
      → (write_checks n N l v (length out) ≡ Err r) × (e ≡ out)
  left-refused out r e w =
      let s = said_refused (write_checks n N l v (length out)) (length (text_of l v)) r w.answered in
      (s, w.left ∙ ap (λ (y : Check). front_if y (text_of l v) out) s)

  -- ## One text, read back, and never longer than the longest

  -- one link table has one text: whatever two calls left, whichever bytes they were lent
  pub one-text : (o p : List ℕ) (k j : ℕ) (e d : List ℕ) → Left (write_outcome n N l v o) (Ok k) e → Left (write_outcome n N l v p) (Ok j) d
      → (k ≡ j) × (take k e ≡ take j d)
  one-text o p k j e d a b =
      let x = wrote o k e a in
      let y = wrote p j d b in
      (x.used ∙ sym y.used, x.front ∙ sym y.front)

  -- reading undoes writing: the text that stands in front passes the reader's checks, and its table is the one that was given
  pub reading_undoes_writing : (out : List ℕ) (k : ℕ) (e : List ℕ) (room : ℕ) → Left (write_outcome n N l v out) (Ok k) e → 2 * n - 3 ≤ room
      → (read_checks limit (take k e) room ≡ Ok tt) × (table_of (tree_in (take k e)) ≡ rows_of l v)
  reading_undoes_writing out k e room w h =
      let x = wrote out k e w in
      let t = x.table in
      let r = read_written limit n (rows_of l v) t.table t.some t.few (omega arith) room h in
      subst (λ (m : List ℕ). (read_checks limit m room ≡ Ok tt) × (table_of (tree_in m) ≡ rows_of l v)) (sym x.front) r

  -- so many bytes are always enough
  pub longest_enough : (room : ℕ) → Links limit n N l v → longest_text ≤ room → write_checks n N l v room ≡ Ok tt
  longest_enough room t h = links_accepted room t (omega (arith, h, text_longest n (rows_of l v) t.some t.few t.table))

  pub longest : (out : List ℕ) (k : ℕ) (e : List ℕ) → Left (write_outcome n N l v out) (Ok k) e → k ≤ longest_text
  longest out k e w =
      let x = wrote out k e w in
      omega (arith, x.used, text_longest n (rows_of l v) x.table.some x.table.few x.table.table)
