-- What it says that the reader's checks pass, and that nothing else is needed for it. Assumes nothing.
use Rattle.std.specs.Prelude.{List, refl, ◌≡◌, ℕ, ◌%◌, ◌*◌, ◌+◌, ◌/◌, ◌<◌, ◌≤◌, ltb, drop, length, Ok, Err}
use Rattle.std.proofs.Common.{ap, arith, le-ltb, ltb-false}
use Rattle.ground.specs.Refusals.{room_check, ◌then◌, Check}
use Rattle.ground.specs.Laws.Refusals.{refuse_if-passed, then_passed}
use Rattle.ground.specs.Laws.Tests.{or_false}
use Rattle.ground.specs.declared.Refusal.{Refusal}
use Rattle.stored_costs.specs.declared.CostsRead.{CostsRead}
use Rattle.bits.specs.Kinds.{end_check, fill_check, misplaced, position_check}
use Rattle.theory.specs.Checks.{images_check}
use Rattle.theory.specs.Laws.Checks.{images-passed}
use Rattle.tables.specs.Checks.{entry_check, off_diagonal_check}
use Rattle.tables.proofs.Laws.Formed.{off_diagonal_passed, passed_off_diagonal}
use Rattle.tables.proofs.Laws.Pairs.{pairs_passed, passed_pairs}
use Rattle.bits.specs.Forms.{bytes_for}
use Rattle.cost_forms.specs.Entries.{entry_cost, entry_number}
use Rattle.cost_forms.specs.Form.{cost_used}
use Rattle.cost_forms.specs.Said.{entry_of, fill_of, images_of}
use Rattle.cost_forms.specs.Laws.Tables.{cost_of_up}
use Rattle.stored_costs.specs.Outcomes.{judged, table_if}
use Rattle.stored_costs.specs.Reading.{body_checks, read_at_checks, read_checks, start_checks, stored_check, values_check}
use Rattle.cost_forms.specs.Sizes.{Held}
use Rattle.bits.specs.declared.Form.{Form}
use Rattle.stored_costs.specs.Stored.{Readable, TableAt}

-- ## Refusals 4 and 20

module _ (L : ℕ) (f : ℕ → ℕ) (n : ℕ) where
  abbrev d : ℕ → ℕ → ℕ
  d = entry_cost f n

  pub values_passed : values_check L d n ≡ Ok tt → (i j : ℕ) → i < j → j < n → (f (entry_number n i j) ≤ L) × (0 < f (entry_number n i j))
  values_passed e i j h k =
      let p = then_passed (stored_check L d n) (off_diagonal_check d n) e in
      rw (← (cost_of_up f n i j h))
      (ltb-false L (d i j) (refuse_if-passed (ltb L (d i j)) _ (pairs_passed (entry_check L d) n p.0 i j h k)), off_diagonal_passed d n p.1 i j h k)

  pub passed_values : ((i j : ℕ) → i < j → j < n → f (entry_number n i j) ≤ L) → ((i j : ℕ) → i < j → j < n → 0 < f (entry_number n i j))
      → values_check L d n ≡ Ok tt
  passed_values h g =
      rw (passed_pairs (entry_check L d) n (λ i j l k. rw (cost_of_up f n i j l, le-ltb L (f (entry_number n i j)) (h i j l k))))
      (passed_off_diagonal d n (λ i j l k. rw (cost_of_up f n i j l) (g i j l k)))

-- ## Refusals 9, 1, 3, and 9, 11

pub start-passed : (form : Form) (s : List ℕ) (room : ℕ) → start_checks form s room ≡ Ok tt
    → (bytes_for (form.head + 7) ≤ length s) × (3 ≤ images_of form s) × (images_of form s ≤ 64) × (images_of form s * images_of form s ≤ room)
start-passed form s room e =
    let n = images_of form s in
    let q = then_passed (end_check s (bytes_for (form.head + 7))) (images_check n then room_check (n * n) room) e in
    let r = then_passed (images_check n) (room_check (n * n) room) q.1 in
    let o = images-passed n r.0 in (
      ltb-false _ _ (refuse_if-passed (ltb (length s) (bytes_for (form.head + 7))) _ q.0),
      o.0,
      o.1,
      ltb-false _ _
          (refuse_if-passed (ltb room (n * n)) _ r.1),
    )

pub body_passed : (form : Form) (n : ℕ) (s : List ℕ) → body_checks form n s ≡ Ok tt → (cost_used form n ≤ length s) × (fill_of form n s ≡ 0)
body_passed form n s e =
    let u = then_passed (end_check s (cost_used form n)) (fill_check (fill_of form n s)) e in
    let z = ltb-false 0 (fill_of form n s) (refuse_if-passed (ltb 0 (fill_of form n s)) _ u.1) in
    (ltb-false _ _ (refuse_if-passed (ltb (length s) (cost_used form n)) _ u.0), omega (arith, z))

-- ## All of them

module _ (form : Form) (s : List ℕ) (room : ℕ) where
  pub read_passed : read_checks form s room ≡ Ok tt → Readable form s room
  read_passed e =
      let n = images_of form s in
      let p = then_passed (start_checks form s room) (body_checks form n s then values_check form.limit (entry_cost (entry_of form s) n) n) e in
      let q = start-passed form s room p.0 in
      let t = then_passed (body_checks form n s) (values_check form.limit (entry_cost (entry_of form s) n) n) p.1 in
      let u = body_passed form n s t.0 in
      let v = values_passed form.limit (entry_of form s) n t.1 in
      record {
        begun = q.0;
        some = q.1;
        few = q.2;
        roomy = q.3;
        whole = u.0;
        clear = u.1;
        fine = λ i j h k. (v i j h k).0;
        nonzero = λ i j h k. (v i j h k).1;
      }

  pub passed_read : Readable form s room → read_checks form s room ≡ Ok tt
  passed_read r =
      let n = images_of form s in
      rw (
        le-ltb (length s) (bytes_for (form.head + 7)) r.begun,
        le-ltb n 3 r.some,
        le-ltb 64 n r.few,
        le-ltb room (n * n) r.roomy,
        le-ltb (length s) (cost_used form n) r.whole,
        r.clear,
        passed_values form.limit (entry_of form s) n r.fine r.nonzero,
      )

  -- so the functions below may be called
  pub readable_held : form.head ≤ 7 → form.width ≤ 32 → Readable form s room → Held form (images_of form s) (length s)
  readable_held h k r = record { small = record { short = h; narrow = k; few = r.few }; within = omega (arith, r.whole) }

-- ## At a position

module _ (form : Form) (bytes : List ℕ) (position room : ℕ) where
  -- an answer that is a table says which, and that all checks passed
  judged-table : (n used : ℕ) → judged form bytes position room ≡ Ok (record { n = n; used = used })
      → (read_at_checks form bytes position room ≡ Ok tt) × (images_of form (drop (position / 8) bytes) ≡ n)
      × (cost_used form (images_of form (drop (position / 8) bytes)) ≡ used)
  judged-table n used e =
      go (read_at_checks form bytes position room) (images_of form (drop (position / 8) bytes)) (cost_used form (images_of form (drop (position / 8) bytes))) e
    where
      go : (c : Check) (m v : ℕ) → table_if c m v ≡ Ok (record { n = n; used = used }) → (c ≡ Ok tt) × (m ≡ n) × (v ≡ used)
      go (Ok u) m v e =
          let q : ◌≡◌ {A = CostsRead} (record { n = m; used = v }) (record { n = n; used = used }) = cc in
          (refl, ap (λ (x : CostsRead). x.n) q, ap (λ (x : CostsRead). x.used) q)
      go (Err r) m v e = absurd (let q : ◌≡◌ {A = ℕ} 0 1 = cc in omega arith)

  pub judged-refused : (r : Refusal) → judged form bytes position room ≡ Err r → read_at_checks form bytes position room ≡ Err r
  judged-refused r e =
      go (read_at_checks form bytes position room) (images_of form (drop (position / 8) bytes)) (cost_used form (images_of form (drop (position / 8) bytes))) e
    where
      go : (c : Check) (m v : ℕ) → table_if c m v ≡ Err r → c ≡ Err r
      go (Ok tt) m v e = absurd (let q : ◌≡◌ {A = ℕ} 0 1 = cc in omega arith)
      go (Err q) m v e = let z : q ≡ r = cc in ap Err z

  -- the position is a byte's start within the bytes, and what stands from there on is readable
  pub read_at_passed : read_at_checks form bytes position room ≡ Ok tt
      → (position / 8 ≤ length bytes) × (position % 8 ≡ 0) × Readable form (drop (position / 8) bytes) room
  read_at_passed e =
      let p = then_passed (position_check bytes position) (read_checks form (drop (position / 8) bytes) room) e in
      let q = or_false (ltb (length bytes) (position / 8)) (ltb 0 (position % 8)) (refuse_if-passed (misplaced (length bytes) position) _ p.0) in
      let z = ltb-false 0 (position % 8) q.1 in
      (ltb-false (length bytes) (position / 8) q.0, omega (arith, z), read_passed form (drop (position / 8) bytes) room p.1)

pub table-at : (form : Form) (bytes : List ℕ) (position room n used : ℕ) → judged form bytes position room ≡ Ok (record { n = n; used = used })
    → TableAt form bytes position room n used
table-at form bytes position room n used e =
    let t = judged-table form bytes position room n used e in
    let p = read_at_passed form bytes position room t.0 in
    record { passed = t.0; inside = p.0; aligned = p.1; number = t.1; count = rw (← t.1) t.2; readable = p.2 }
