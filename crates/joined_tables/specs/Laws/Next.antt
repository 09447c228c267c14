-- The next table of a batch passes its checks exactly when it is a link table that has its rows and room. Assumes nothing.
use Rattle.std.specs.Prelude.{List, ◌≡◌, ℕ, ◌*◌, ◌-◌, ◌≤◌, ltb, length, take, Ok}
use Rattle.std.proofs.Common.{ap, subst, sym, ◌∙◌, arith, length-take, length-take-le, le-ltb, ltb-false}
use Rattle.ground.specs.Refusals.{refusal, refuse_if, ◌then◌}
use Rattle.ground.specs.Laws.Refusals.{refuse_if-passed, then_passed}
use Rattle.theory.proofs.Laws.RowCount.{row_count}
use Rattle.theory.specs.LinkTables.{rows_of}
use Rattle.theory.specs.Tables.{limit}
use Rattle.links.specs.Checks.{count_checks, length_checks, row_checks, size_checks}
use Rattle.links.specs.Laws.LinkChecks.{LinksSized, count-passed, passed_sizes, rows-length}
use Rattle.link_forms.specs.Form.{link_bytes, link_used}
use Rattle.link_forms.specs.Laws.Form.{length_links}
use Rattle.link_writer.specs.Laws.Accepted.{passed_write, write_passed}
use Rattle.link_writer.specs.Writing.{RoomFor, fit_checks, store_checks}
use Rattle.joined_tables.specs.Fitting.{NextFits}
use Rattle.joined_tables.specs.Tables.{left_over_checks, next_checks, run_out_checks}
use Rattle.bits.specs.declared.Form.{Form}

pub run_out_passed : (N : ℕ) (l v : List ℕ) → run_out_checks N l v ≡ Ok tt → (N ≤ length l) × (N ≤ length v)
run_out_passed N l v e =
    let p = then_passed (refuse_if (ltb (length l) N) (refusal 2 0 0 0 0)) (refuse_if (ltb (length v) N) (refusal 2 0 0 0 0)) e in
    (ltb-false (length l) N (refuse_if-passed (ltb (length l) N) _ p.0), ltb-false (length v) N (refuse_if-passed (ltb (length v) N) _ p.1))

pub left_over_passed : (l v : List ℕ) → left_over_checks l v ≡ Ok tt → (length l ≡ 0) × (length v ≡ 0)
left_over_passed l v e =
    let p = then_passed (refuse_if (ltb 0 (length l)) (refusal 2 0 0 0 0)) (refuse_if (ltb 0 (length v)) (refusal 2 0 0 0 0)) e in
    let a = ltb-false 0 (length l) (refuse_if-passed (ltb 0 (length l)) _ p.0) in
    let b = ltb-false 0 (length v) (refuse_if-passed (ltb 0 (length v)) _ p.1) in
    (omega (arith, a), omega (arith, b))

pub next_sized : (n N : ℕ) (l v : List ℕ) → count_checks n N ≡ Ok tt → run_out_checks N l v ≡ Ok tt → LinksSized n N (take N l) (take N v)
next_sized n N l v e f =
    let c = count-passed n N e in
    let r = run_out_passed N l v f in
    record { some = c.0; few = c.1; least = c.2; most = c.3; counted = length-take-le N l r.0; costed = length-take-le N v r.1 }

module _ (form : Form) (n N : ℕ) (l v : List ℕ) (room : ℕ) where
  pub next-passed : next_checks form n N l v room ≡ Ok tt → NextFits form n N l v room
  next-passed e =
      let f = fit_checks form n (take N l) (take N v) room in
      let p = then_passed (count_checks n N) (run_out_checks N l v then f) e in
      let q = then_passed (run_out_checks N l v) f p.1 in
      let s = next_sized n N l v p.0 q.0 in
      let r = write_passed form n N (take N l) (take N v) room (rw (passed_sizes n N (take N l) (take N v) s) q.1) in
      record { links = r.0; fits = subst (λ (x : ℕ). link_used form n x ≤ room) s.counted r.1 }

  -- its rows are there
  pub next-length : NextFits form n N l v room → (N ≤ length l) × (N ≤ length v)
  next-length t = (omega (arith, t.links.counted, length-take N l), omega (arith, t.links.costed, length-take N v))

  pub next-count : NextFits form n N l v room → (3 ≤ n) × (n ≤ 64) × (n ≤ N) × (N ≤ 2 * n - 3)
  next-count t =
      let k = t.links in
      let c = row_count form.limit n (rows_of (take N l) (take N v)) k.some k.table in
      let q = rows-length (take N l) (take N v) (k.counted ∙ sym k.costed) in
      (k.some, k.few, omega (arith, c.0, q, k.counted), omega (arith, c.1, q, k.counted))

  pub passed-next : form.limit ≤ limit → NextFits form n N l v room → next_checks form n N l v room ≡ Ok tt
  passed-next w t =
      let k = take N l in
      let u = take N v in
      let e = passed_write form n N k u room w t.links (subst (λ (x : ℕ). link_used form n x ≤ room) (sym t.links.counted) t.fits) in
      let p = then_passed (size_checks n N k u then row_checks limit n k u) (store_checks form n k u room) e in
      let r = then_passed (size_checks n N k u) (row_checks limit n k u) p.0 in
      let q = then_passed (count_checks n N) (length_checks N k u) r.0 in
      let b = next-length t in
      rw (q.0, le-ltb (length l) N b.0, le-ltb (length v) N b.1, r.1) p.1

  -- so the raw writer may be called
  pub next-room : form.head ≤ 7 → form.width ≤ 32 → NextFits form n N l v room → RoomFor form n N room
  next-room h k t =
      let c = next-count t in
      record { small = record { short = h; narrow = k; some = c.0; few = c.1; rows = omega (arith, c.1, c.3) }; fits = t.fits }

  pub length-next : NextFits form n N l v room → length (link_bytes form n (take N l) (take N v)) ≡ link_used form n N
  length-next t = length_links form n (take N l) (take N v) ∙ ap (λ (x : ℕ). link_used form n x) t.links.counted
