-- Reading at a position: what it says that the checks there pass, and that the rest of the bytes reads as the whole does there. Assumes nothing.
use Rattle.std.specs.Prelude.{List, refl, ◌≡◌, ℕ, ◌%◌, ◌*◌, ◌-◌, ◌/◌, ◌≤◌, ltb, drop, length, Ok, Err}
use Rattle.std.proofs.Common.{ap, arith, ltb-false}
use Rattle.ground.specs.Refusals.{◌then◌, Check}
use Rattle.ground.specs.Laws.Refusals.{refuse_if-passed, then_passed}
use Rattle.ground.specs.Laws.Tests.{or_false}
use Rattle.ground.specs.declared.Refusal.{Refusal}
use Rattle.bits.specs.Kinds.{misplaced, position_check}
use Rattle.stored_links.specs.Laws.Outcomes.{table-passed, table-refused}
use Rattle.stored_links.proofs.Laws.Passed.{head_passed, read_passed, room_goes}
use Rattle.stored_links.specs.Outcomes.{judged}
use Rattle.stored_links.specs.Reading.{read_at_checks, read_checks, table_at_checks}
use Rattle.link_forms.specs.Said.{count_of, images_of, used_of}
use Rattle.bits.specs.declared.Form.{Form}
use Rattle.stored_links.specs.Stored.{TableAt}

module _ (form : Form) (bytes : List ℕ) (position : ℕ) where
  pub position_passed : position_check bytes position ≡ Ok tt → (position / 8 ≤ length bytes) × (position % 8 ≡ 0)
  position_passed e =
      let q = or_false (ltb (length bytes) (position / 8)) (ltb 0 (position % 8)) (refuse_if-passed (misplaced (length bytes) position) _ e) in
      let z = ltb-false 0 (position % 8) q.1 in
      (ltb-false (length bytes) (position / 8) q.0, omega (arith, z))

  -- the position is a byte's start within the bytes, and a table stands there that has room
  pub read_at_passed : (room : ℕ) → read_at_checks form bytes position room ≡ Ok tt
      → TableAt form bytes position (images_of form (drop (position / 8) bytes)) (count_of form (drop (position / 8) bytes))
      (used_of form (drop (position / 8) bytes))
      × (2 * images_of form (drop (position / 8) bytes) - 3 ≤ room)
  read_at_passed room e =
      let s = drop (position / 8) bytes in
      let p = then_passed (position_check bytes position) (read_checks form s room) e in
      let q = position_passed p.0 in
      let r = read_passed form s room p.1 in
      (record { inside = q.0; aligned = q.1; stored = r.0; used_is = refl }, r.1)

  pub table-at : (room n N used : ℕ) → judged form bytes position room ≡ Ok (record { n = n; count = N; used = used })
      → (read_at_checks form bytes position room ≡ Ok tt) × TableAt form bytes position n N used × (2 * n - 3 ≤ room)
  table-at room n N used e =
      let s = drop (position / 8) bytes in
      let t = table-passed (read_at_checks form bytes position room) (images_of form s) (count_of form s) (used_of form s) n N used e in
      let p = read_at_passed room t.0 in
      (t.0, rw (← t.1, ← t.2, ← t.3) p.0, rw (← t.1) p.1)

  pub refused-at : (room : ℕ) (r : Refusal) → judged form bytes position room ≡ Err r → read_at_checks form bytes position room ≡ Err r
  refused-at room r e =
      let s = drop (position / 8) bytes in
      table-refused (read_at_checks form bytes position room) (images_of form s) (count_of form s) (used_of form s) r e

  -- with 125 places in each output 3 is never the answer, so the answer is that of the checks without 3
  pub enough_room : (room : ℕ) → 125 ≤ room → read_at_checks form bytes position room ≡ table_at_checks form bytes position
  enough_room room h =
      let s = drop (position / 8) bytes in
      ap (λ (c : Check). position_check bytes position then c) (room_goes form s room (λ e. omega (arith, (head_passed form s e).2)))
