-- What it says that the reader's checks pass, and that nothing else is needed for it. Assumes nothing.
use Rattle.std.specs.Prelude.{List, refl, ◌≡◌, ℕ, ◌*◌, ◌+◌, ◌-◌, ◌≤◌, ltb, length, Ok, Err}
use Rattle.std.proofs.Common.{sym, ◌∙◌, arith, le-ltb, ltb-false}
use Rattle.ground.specs.Refusals.{room_check, ◌then◌, Check}
use Rattle.ground.specs.Laws.Refusals.{refuse_if-passed, then_passed}
use Rattle.bits.specs.Kinds.{end_check, fill_check}
use Rattle.theory.specs.LinkTables.{LinkTable, rows_of}
use Rattle.bits.specs.Forms.{bytes_for}
use Rattle.bits.specs.Laws.Listed.{length-listed}
use Rattle.links.specs.Checks.{count_checks, row_checks}
use Rattle.links.specs.Laws.LinkChecks.{count-passed, row_checks_lem}
use Rattle.link_forms.specs.Form.{link_used}
use Rattle.stored_links.specs.Reading.{body_checks, head_checks, read_checks, table_checks}
use Rattle.link_forms.specs.Said.{cost_at, costs_of, count_of, far_at, fars_of, fill_of, images_of}
use Rattle.link_forms.specs.Sizes.{Held}
use Rattle.bits.specs.declared.Form.{Form}
use Rattle.stored_links.specs.Stored.{Stored}

-- ## Refusals 9, 1, 10, and 9, 11, 12, 13

pub head_passed : (form : Form) (s : List ℕ) → head_checks form s ≡ Ok tt
    → (bytes_for (form.head + 14) ≤ length s) × (3 ≤ images_of form s) × (images_of form s ≤ 64) × (images_of form s ≤ count_of form s)
    × (count_of form s ≤ 2 * images_of form s - 3)
head_passed form s e =
    let q = then_passed (end_check s (bytes_for (form.head + 14))) (count_checks (images_of form s) (count_of form s)) e in
    let o = count-passed (images_of form s) (count_of form s) q.1 in
    (ltb-false _ _ (refuse_if-passed (ltb (length s) (bytes_for (form.head + 14))) _ q.0), o.0, o.1, o.2, o.3)

pub end_passed : (s : List ℕ) (needed : ℕ) → end_check s needed ≡ Ok tt → needed ≤ length s
end_passed s needed e = ltb-false _ _ (refuse_if-passed (ltb (length s) needed) _ e)

pub room-passed : (needed room : ℕ) → room_check needed room ≡ Ok tt → needed ≤ room
room-passed needed room e = ltb-false _ _ (refuse_if-passed (ltb room needed) _ e)

pub fill_passed : (fill : ℕ) → fill_check fill ≡ Ok tt → fill ≡ 0
fill_passed fill e = let z = ltb-false 0 fill (refuse_if-passed (ltb 0 fill) _ e) in omega (arith, z)

pub body_passed : (form : Form) (n N : ℕ) (s : List ℕ) → body_checks form n N s ≡ Ok tt
    → (link_used form n N ≤ length s) × (fill_of form n N s ≡ 0) × (row_checks form.limit n (fars_of form n N s) (costs_of form n N s) ≡ Ok tt)
body_passed form n N s e =
    let r = row_checks form.limit n (fars_of form n N s) (costs_of form n N s) in
    let p = then_passed (end_check s (link_used form n N)) (fill_check (fill_of form n N s) then r) e in
    let q = then_passed (fill_check (fill_of form n N s)) r p.1 in
    (end_passed s (link_used form n N) p.0, fill_passed (fill_of form n N s) q.0, q.1)

-- ## All of them

module _ (form : Form) (s : List ℕ) where
  same_length : (n N : ℕ) → length (fars_of form n N s) ≡ length (costs_of form n N s)
  same_length n N = length-listed (far_at form n s) N ∙ sym (length-listed (cost_at form n s) N)

  pub passed-rows : (n N : ℕ) → row_checks form.limit n (fars_of form n N s) (costs_of form n N s) ≡ Ok tt
      → LinkTable form.limit n (rows_of (fars_of form n N s) (costs_of form n N s))
  passed-rows n N e = (row_checks_lem form.limit n (fars_of form n N s) (costs_of form n N s) (same_length n N)).0 e

  pub rows-passed : (n N : ℕ) → LinkTable form.limit n (rows_of (fars_of form n N s) (costs_of form n N s))
      → row_checks form.limit n (fars_of form n N s) (costs_of form n N s) ≡ Ok tt
  rows-passed n N t = (row_checks_lem form.limit n (fars_of form n N s) (costs_of form n N s) (same_length n N)).1 t

  pub read_passed : (room : ℕ) → read_checks form s room ≡ Ok tt → Stored form (images_of form s) (count_of form s) s × (2 * images_of form s - 3 ≤ room)
  read_passed room e =
      let n = images_of form s in
      let N = count_of form s in
      let p = then_passed (head_checks form s) (room_check (2 * n - 3) room then body_checks form n N s) e in
      let h = head_passed form s p.0 in
      let t = then_passed (room_check (2 * n - 3) room) (body_checks form n N s) p.1 in
      let b = body_passed form n N s t.1 in (
        record {
          begun = h.0;
          images = refl;
          counted = refl;
          some = h.1;
          few = h.2;
          least = h.3;
          most = h.4;
          whole = b.0;
          clear = b.1;
          rows = passed-rows n N b.2;
        },
        room-passed (2 * n - 3) room t.0,
      )

  -- the checks of what stands there pass, without 3 and, where there is room, with it
  pub passed-table : (n N : ℕ) → Stored form n N s → table_checks form s ≡ Ok tt
  passed-table n N r =
      rw (r.images, r.counted)
      (rw (
        le-ltb (length s) (bytes_for (form.head + 14)) r.begun,
        le-ltb n 3 r.some,
        le-ltb 64 n r.few,
        le-ltb N n r.least,
        le-ltb (2 * n - 3) N r.most,
        le-ltb (length s) (link_used form n N) r.whole,
        r.clear,
      ) (rows-passed n N r.rows))

  -- with so many places in each output 3 is never the answer
  pub room_goes : (room : ℕ) → (head_checks form s ≡ Ok tt → 2 * images_of form s - 3 ≤ room) → read_checks form s room ≡ table_checks form s
  room_goes room h = go (head_checks form s) h
    where
      b : Check
      b = body_checks form (images_of form s) (count_of form s) s

      go : (c : Check) → (c ≡ Ok tt → 2 * images_of form s - 3 ≤ room) → (c then room_check (2 * images_of form s - 3) room then b) ≡ (c then b)
      go (Ok tt) k = rw (le-ltb room (2 * images_of form s - 3) (k refl))
      go (Err r) k = refl

  pub passed_read : (n N room : ℕ) → Stored form n N s → 2 * n - 3 ≤ room → read_checks form s room ≡ Ok tt
  passed_read n N room r k = room_goes room (λ e. rw r.images k) ∙ passed-table n N r

  -- so the functions below may be called
  pub stored_held : (n N : ℕ) → form.head ≤ 7 → form.width ≤ 32 → Stored form n N s → Held form n N (length s)
  stored_held n N h k r =
      record { small = record { short = h; narrow = k; some = r.some; few = r.few; rows = omega (arith, r.most, r.few) }; within = omega (arith, r.whole) }
