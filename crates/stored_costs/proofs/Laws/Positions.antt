-- Reading at a position: the rest of the bytes, what was written, and the bytes used. Assumes nothing.
use Rattle.std.specs.Prelude.{List, ◌++◌, refl, ◌≡◌, ℕ, ◌%◌, ◌*◌, ◌/◌, ◌<◌, ◌^◌, ◌≤◌, drop, length, take, Ok}
use Rattle.std.proofs.Common.{ap, sym, ◌∙◌, length-append}
use native.Mathlib.Omega.{arith}
use Rattle.std.proofs.Math.Seq.{drop-append_seam}
use borrow.Author.Tests.{le-ltb}
use Rattle.ground.specs.Outcomes.{Outcome, front_if}
use Rattle.theory.specs.Tables.{CostTable, cost}
use Rattle.bits.specs.Bits.{AllBytes}
use Rattle.bits.specs.Editions.{Marked}
use Rattle.bits.specs.Laws.Written.{all_bytes_drop}
use Rattle.cost_forms.specs.Form.{cost_bytes, cost_used}
use Rattle.cost_forms.specs.Said.{stored_table, images_of}
use Rattle.stored_costs.proofs.Laws.Passed.{passed_read, table-at}
use Rattle.stored_costs.specs.Laws.ReadBack.{written_costs_of, written_images, written_readable}
use Rattle.stored_costs.specs.Laws.WriteBack.{read_written}
use Rattle.stored_costs.specs.Outcomes.{judged, read_outcome, table_if, StoredCosts}
use Rattle.stored_costs.specs.Reading.{read_checks}
use Rattle.bits.specs.declared.Form.{Form}
use Rattle.stored_costs.specs.Stored.{Readable, read_into}

module _ (form : Form) where
  -- what reading at the front of s gives
  from_front : List ℕ → List ℕ → Outcome StoredCosts
  from_front s out =
      record {
        answer = table_if (read_checks form s (length out)) (images_of form s) (cost_used form (images_of form s));
        places = front_if (read_checks form s (length out)) (stored_table form (images_of form s) s) out;
      }

  read_front : (bytes s : List ℕ) (k : ℕ) (out : List ℕ) → k ≤ length bytes → drop k bytes ≡ s → read_outcome form bytes (8 * k) out ≡ from_front s out
  unfolding from_front
  read_front bytes s k out h e =
      let q : 8 * k / 8 ≡ k = omega arith in
      let z : 8 * k % 8 ≡ 0 = omega arith in
      rw (q, z, e, le-ltb (length bytes) k h)

  -- at the start of byte k the table is read that stands from there on
  pub read_at : (bytes s : List ℕ) (k : ℕ) (out : List ℕ) → k ≤ length bytes → drop k bytes ≡ s → Readable form s (length out)
      → read_outcome form bytes (8 * k) out ≡ read_into (images_of form s) (cost_used form (images_of form s)) (stored_table form (images_of form s) s) out
  unfolding from_front
  read_at bytes s k out h e r = read_front bytes s k out h e ∙ rw (passed_read form s (length out) r)

  -- so the rest of the bytes, from byte k on, reads as the whole does at that byte
  pub read_rest : (bytes : List ℕ) (k : ℕ) (out : List ℕ) → k ≤ length bytes → read_outcome form (drop k bytes) 0 out ≡ read_outcome form bytes (8 * k) out
  read_rest bytes k out h = read_front (drop k bytes) (drop k bytes) 0 out (omega arith) refl ∙ sym (read_front bytes (drop k bytes) k out h refl)

  -- reading what was written gives the table back, whatever stands ahead and behind
  pub written_at : (n : ℕ) (t ahead behind out : List ℕ) → CostTable form.limit n t → form.limit < 2 ^ form.width → n * n ≤ length out
      → read_outcome form (ahead ++ (cost_bytes form n (cost t n) ++ behind)) (8 * length ahead) out ≡ read_into n (cost_used form n) t out
  written_at n t ahead behind out c f h =
      let s = cost_bytes form n (cost t n) ++ behind in
      let i : images_of form s ≡ n = written_images form n t behind c f in
      let m : stored_table form n s ≡ t = written_costs_of form n t behind c f in
      read_at (ahead ++ s) s (length ahead) out (omega (arith, length-append ahead s)) (drop-append_seam ahead s)
      (written_readable form n t behind c f (length out) h)
      ∙ ap (λ (x : ℕ). read_into x (cost_used form x) (stored_table form x s) out) i
      ∙ ap (λ (x : List ℕ). read_into n (cost_used form n) x out) m

  -- the bytes used are the form of the table that was read
  pub used_bytes : (bytes : List ℕ) (position room n used : ℕ) → AllBytes bytes → judged form bytes position room ≡ Ok (record { n = n; used = used })
      → Marked form (drop (position / 8) bytes)
      → cost_bytes form n (cost (stored_table form n (drop (position / 8) bytes)) n) ≡ take used (drop (position / 8) bytes)
  used_bytes bytes position room n used b e m =
      let s = drop (position / 8) bytes in
      let a = table-at form bytes position room n used e in
      rw (← a.count, ← a.number) (read_written form s room a.readable m (all_bytes_drop (position / 8) bytes b))

  -- one stored form for one table: bytes that are read as the same table are the same
  pub same_bytes : (a b : List ℕ) (p q r s n u v : ℕ) → AllBytes a → AllBytes b
      → judged form a p r ≡ Ok (record { n = n; used = u }) → judged form b q s ≡ Ok (record { n = n; used = v })
      → Marked form (drop (p / 8) a) → Marked form (drop (q / 8) b)
      → stored_table form n (drop (p / 8) a) ≡ stored_table form n (drop (q / 8) b)
      → take u (drop (p / 8) a) ≡ take v (drop (q / 8) b)
  same_bytes a b p q r s n u v ha hb e f g i h =
      sym (used_bytes a p r n u ha e g) ∙ ap (λ (t : List ℕ). cost_bytes form n (cost t n)) h ∙ used_bytes b q s n v hb f i
