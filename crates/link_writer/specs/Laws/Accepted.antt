-- The writer's checks pass exactly for the link tables within the form's limit that the lent bytes have room for. Assumes nothing.
use Rattle.std.specs.Prelude.{List, ◌≡◌, ℕ, ◌≤◌, length, Ok}
use Rattle.std.proofs.Common.{sym, arith, le-ltb}
use Rattle.ground.specs.Refusals.{room_check, ◌then◌}
use Rattle.ground.specs.Laws.Refusals.{then_passed}
use Rattle.theory.proofs.Laws.RowCount.{row_count}
use Rattle.theory.specs.LinkTables.{rows_of}
use Rattle.theory.specs.Tables.{limit}
use Rattle.link_writer.specs.Laws.Fitting.{links_narrow, links_wide, passed_fit}
use Rattle.link_writer.specs.Writing.{fit_check, store_checks, write_checks}
use Rattle.links.specs.Checks.{row_checks, size_checks}
use Rattle.links.specs.Links.{Links}
use Rattle.links.specs.Laws.LinkChecks.{link_checks_lem, rows-length}
use Rattle.link_forms.specs.Form.{link_used}
use Rattle.stored_links.proofs.Laws.Passed.{room-passed}
use Rattle.link_forms.specs.Sizes.{Small}
use Rattle.bits.specs.declared.Form.{Form}

module _ (form : Form) (n N : ℕ) (l v : List ℕ) (room : ℕ) where
  -- 17, 3
  pub store_passed : store_checks form n l v room ≡ Ok tt → (fit_check form.limit v ≡ Ok tt) × (link_used form n (length l) ≤ room)
  store_passed e =
      let p = then_passed (fit_check form.limit v) (room_check (link_used form n (length l)) room) e in
      (p.0, room-passed (link_used form n (length l)) room p.1)

  pub passed_store : Links form.limit n N l v → link_used form n (length l) ≤ room → store_checks form n l v room ≡ Ok tt
  passed_store t h = rw (passed_fit form.limit n N l v t, le-ltb room (link_used form n (length l)) h)

  -- all of them
  pub write_passed : write_checks form n N l v room ≡ Ok tt → Links form.limit n N l v × (link_used form n (length l) ≤ room)
  write_passed e =
      let p = then_passed (size_checks n N l v then row_checks limit n l v) (store_checks form n l v room) e in
      let q = store_passed p.1 in
      (links_narrow form.limit n N l v limit ((link_checks_lem limit n N l v).0 p.0) q.0, q.1)

  pub passed_write : form.limit ≤ limit → Links form.limit n N l v → link_used form n (length l) ≤ room → write_checks form n N l v room ≡ Ok tt
  passed_write w t h = rw ((link_checks_lem limit n N l v).1 (links_wide form.limit n N l v limit w t)) (passed_store t h)

-- how few rows a link table has
pub links_small : (form : Form) (L n : ℕ) (l v : List ℕ) → form.head ≤ 7 → form.width ≤ 32 → Links L n (length l) l v → Small form n (length l)
links_small form L n l v h k t =
    let c = row_count L n (rows_of l v) t.some t.table in
    let q = rows-length l v (sym t.costed) in
    record { short = h; narrow = k; some = t.some; few = t.few; rows = omega (arith, c, q, t.few) }
