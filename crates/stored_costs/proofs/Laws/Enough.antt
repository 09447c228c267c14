-- Reading the table that the bytes s begin with into places enough for every table: 3 is never the answer. Assumes nothing.
use Rattle.std.specs.Prelude.{List, ◌++◌, refl, ◌≡◌, ℕ, ◌*◌, ◌+◌, ◌≤◌, length, take, Ok, Err}
use Rattle.std.proofs.Common.{ap, sym, ◌∙◌, arith, take_at, le-ltb}
use Rattle.ground.specs.Outcomes.{Left}
use Rattle.ground.specs.Refusals.{outside, room_check, ◌then◌, Check}
use Rattle.ground.specs.Laws.Refusals.{outside_false, refuse_if-passed}
use Rattle.ground.specs.declared.Refusal.{Refusal}
use Rattle.theory.specs.Checks.{images_check}
use Rattle.theory.specs.Tables.{CostTable, cost, limit}
use Rattle.bits.specs.Editions.{edition_of}
use Rattle.bits.specs.Forms.{bytes_for}
use Rattle.bits.specs.Kinds.{end_check}
use Rattle.bits.specs.declared.Edition.{Edition}
use Rattle.bits.specs.declared.Form.{Form}
use Rattle.cost_forms.specs.Entries.{entry_cost}
use Rattle.cost_forms.specs.Form.{cost_bytes, cost_form, cost_form_at}
use Rattle.cost_forms.specs.Said.{entry_of, images_of, stored_table}
use Rattle.stored_costs.proofs.Laws.Passed.{judged-refused, passed_read, read_passed, table-at}
use Rattle.stored_costs.specs.Laws.ReadBack.{written_costs_of, written_images, written_readable}
use Rattle.cost_forms.specs.Laws.Sizes.{square_le}
use Rattle.cost_forms.specs.Laws.Tables.{length-table, table_formed}
use Rattle.stored_costs.proofs.Laws.Told.{form_fits, form_limit, told_costs}
use Rattle.stored_costs.specs.Outcomes.{read_either}
use Rattle.stored_costs.specs.Reading.{body_checks, read_at_checks, read_checks, table_checks, values_check}
use Rattle.stored_costs.specs.Stored.{Readable}

-- a check that passes wherever the one before it does can be left out
without : (e i r b : Check) → (i ≡ Ok tt → r ≡ Ok tt) → ((e then i then r) then b) ≡ (e then i then b)
without (Err q) i r b h = refl
without (Ok u) (Err q) r b h = refl
without (Ok u) (Ok w) r b h = rw (h refl) refl

module _ (form : Form) (s : List ℕ) where
  pub enough_room : (room : ℕ) → 4096 ≤ room → read_checks form s room ≡ table_checks form s
  enough_room room h =
      let n = images_of form s in
      without (end_check s (bytes_for (form.head + 7))) (images_check n) (room_check (n * n) room)
      (body_checks form n s then values_check form.limit (entry_cost (entry_of form s) n) n)
      (λ e. rw (le-ltb room (n * n) (omega (arith, square_le (outside_false 3 64 n (refuse_if-passed (outside 3 64 n) _ e)).1))) refl)

  -- and the first byte is inside
  front_checks : (room : ℕ) → 4096 ≤ room → read_at_checks form s 0 room ≡ table_checks form s
  front_checks room h = rw (le-ltb (length s) 0 (omega arith)) (enough_room room h)

  -- bytes that pass say a table
  pub table_readable : table_checks form s ≡ Ok tt → Readable form s 4096
  table_readable e = read_passed form s 4096 (enough_room 4096 (omega arith) ∙ e)

  pub readable_table : Readable form s 4096 → table_checks form s ≡ Ok tt
  readable_table r = sym (enough_room 4096 (omega arith)) ∙ passed_read form s 4096 r

-- which is a cost table, in whichever form
pub table_said_lem : (s : List ℕ) → table_checks (cost_form_at s 0) s ≡ Ok tt
    → CostTable limit (images_of (cost_form_at s 0) s) (stored_table (cost_form_at s 0) (images_of (cost_form_at s 0) s) s)
table_said_lem s e =
    let form = cost_form_at s 0 in
    let r = table_readable form s e in
    table_formed (entry_of form s) (images_of form s) limit r.some r.few (λ i j h k. omega (arith, r.fine i j h k, form_limit (edition_of s)))
    r.nonzero

-- what was stored, whatever follows it: it tells its form, and passes as the table that it is
pub record TableStored (e : Edition) (n : ℕ) (t s : List ℕ) : Type 0 where
  pub told : edition_of s ≡ e
  pub passed : table_checks (cost_form e) s ≡ Ok tt
  pub images : images_of (cost_form e) s ≡ n
  pub table : stored_table (cost_form e) n s ≡ t

pub table_stored : (e : Edition) (n : ℕ) (t behind : List ℕ) → CostTable (cost_form e).limit n t
    → TableStored e n t (cost_bytes (cost_form e) n (cost t n) ++ behind)
table_stored e n t behind c = record {
  told = told_costs e n (cost t n) behind c.few;
  passed = readable_table (cost_form e) _ (written_readable (cost_form e) n t behind c (form_fits e) 4096 (square_le c.few));
  images = written_images (cost_form e) n t behind c (form_fits e);
  table = written_costs_of (cost_form e) n t behind c (form_fits e);
}

-- ## What the call leaves in places enough for every table

module _ (s o d : List ℕ) (h : 4096 ≤ length o) where
  pub front-refused : (q : Refusal) → Left (read_either s 0 o) (Err q) d → table_checks (cost_form_at s 0) s ≡ Err q
  front-refused q p =
      sym (front_checks (cost_form_at s 0) s (length o) h) ∙ judged-refused (cost_form_at s 0) s 0 (length o) q (sym p.answered)

  -- the table that was read stands in front
  pub record TableRead (n : ℕ) : Type 0 where
    pub few : n ≤ 64
    pub passed : table_checks (cost_form_at s 0) s ≡ Ok tt
    pub images : images_of (cost_form_at s 0) s ≡ n
    pub stands : take (n * n) d ≡ stored_table (cost_form_at s 0) n s
    pub table : CostTable limit n (take (n * n) d)

  pub front_read : (n used : ℕ) → Left (read_either s 0 o) (Ok (record { n = n; used = used })) d → TableRead n
  front_read n used p =
      let form = cost_form_at s 0 in
      let a = table-at form s 0 (length o) n used (sym p.answered) in
      let k : table_checks form s ≡ (Ok tt) = sym (front_checks form s (length o) h) ∙ a.passed in
      let m = images_of form s in
      let t = stored_table form m s in
      let w : take (m * m) d ≡ t = ap (take (m * m)) (rw a.passed at p.left) ∙ take_at t _ (m * m) (length-table (entry_of form s) m) in
      rw (← a.number) (record { few = a.readable.few; passed = k; images = refl; stands = w; table = rw w (table_said_lem s k) })
