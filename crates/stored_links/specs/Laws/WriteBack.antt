-- What was read is a link table, and writing it gives the same used bytes. Assumes nothing.
use mathlib.Core.List.{List, ◌++◌}
use Rattle.std.proofs.Math.Path.{ap, ap₂, sym}
use Rattle.std.proofs.Common.{◌∙◌, zero-add, arith}
use Rattle.std.specs.Prelude.{◌≡◌, ℕ, ◌*◌, ◌+◌, ◌≤◌, length, take}
use Rattle.std.proofs.Math.ListN.{get_or}
use Rattle.bits.specs.Bits.{AllBytes, bits, bits_of, part}
use Rattle.bits.specs.Editions.{Marked}
use Rattle.bits.specs.Forms.{fill_width, filled, field_bits, field_bytes}
use Rattle.bits.specs.Laws.Bytes.{length-bits}
use Rattle.bits.specs.Laws.Numbers.{all_bits_bytes}
use Rattle.bits.specs.Laws.Packed.{packed_only}
use Rattle.bits.specs.Laws.Parts.{part-more}
use Rattle.bits.specs.Laws.Written.{all_bytes_take, bits-take}
use Rattle.bits.specs.Laws.Listed.{length-listed, listed_at}
use Rattle.links.specs.Links.{Links}
use Rattle.link_forms.specs.Form.{link_bytes, link_used, row_at, row_width, rows_to}
use Rattle.link_forms.specs.Laws.Form.{all_bits_links, all_rows, front_bits, length_link_bits, link_parts, link_bits}
use Rattle.link_forms.specs.Laws.Rows.{rows_same}
use Rattle.link_forms.specs.Said.{cost_at, costs_of, count_of, far_at, fars_of, fill_of, images_of}
use Rattle.bits.specs.declared.Form.{Form}
use Rattle.stored_links.specs.Stored.{Stored}
use Rattle.bits.specs.Laws.OneWidth.{part_again}
use Rattle.link_forms.specs.Laws.RowsAgain.{rows_again}

-- what was read is a link table
pub read_links : (form : Form) (n N : ℕ) (s : List ℕ) → Stored form n N s → Links form.limit n N (fars_of form n N s) (costs_of form n N s)
read_links form n N s r =
    record { some = r.some; few = r.few; counted = length-listed (far_at form n s) N; costed = length-listed (cost_at form n s) N; table = r.rows }

module _ (form : Form) (n N : ℕ) (s : List ℕ) (r : Stored form n N s) (marked : Marked form s) where
  l : List ℕ
  l = fars_of form n N s

  v : List ℕ
  v = costs_of form n N s

  end : ℕ
  end = row_at form n N

  count_is : length l ≡ N
  unfolding l
  count_is = length-listed (far_at form n s) N

  within : end ≤ length (bits s)
  unfolding end
  within = omega (arith, length-bits s, r.whole)

  rows_back : all_rows form n l v ≡ part (bits s) (form.head + 14) (row_width form.width n * N)
  unfolding all_rows end l v
  rows_back =
      ap (λ (m : ℕ). field_bits (rows_to form.width n (λ k. get_or l k 0) (λ k. get_or v k 0) m)) count_is
      ∙ ap field_bits (rows_same form.width n (λ k. get_or l k 0) (λ k. get_or v k 0) (far_at form n s) (cost_at form n s) N
      (λ k h. (listed_at (far_at form n s) N k h, listed_at (cost_at form n s) N k h)))
      ∙ rows_again form n s N within

  front-back : front_bits form n l v ≡ part (bits s) 0 (form.head + 14)
  unfolding front_bits end images_of count_of
  front-back =
      let b = all_bits_bytes s in
      let q = bits s in
      let h = within in
      let i : bits_of 7 n ≡ part q form.head 7 = ap (bits_of 7) (sym r.images) ∙ part_again q form.head 7 b (omega arith) in
      let c : bits_of 7 (length l) ≡ part q (form.head + 7) 7 = ap (bits_of 7) (count_is ∙ sym r.counted) ∙ part_again q (form.head + 7) 7 b (omega arith) in
      ap₂ (λ (x y : List ℕ). x ++ y)
      (ap₂ (λ (x y : List ℕ). x ++ y) (ap (bits_of form.head) (sym marked) ∙ part_again q 0 form.head b (omega arith)) i
      ∙ sym (part-more q 0 form.head 7 ∙ ap (λ (k : ℕ). part q 0 form.head ++ part q k 7) (zero-add form.head)))
      c
      ∙ sym
      (ap (part q 0) (omega arith) ∙ part-more q 0 (form.head + 7) 7 ∙ ap (λ (k : ℕ). part q 0 (form.head + 7) ++ part q k 7) (zero-add (form.head + 7)))

  bits_back : link_bits form n l v ≡ part (bits s) 0 end
  unfolding end
  bits_back =
      link_parts form n l v
      ∙ ap₂ (λ (x y : List ℕ). x ++ y) front-back rows_back
      ∙ sym (part-more (bits s) 0 (form.head + 14) (row_width form.width n * N)
      ∙ ap (λ (k : ℕ). part (bits s) 0 (form.head + 14) ++ part (bits s) k (row_width form.width n * N)) (zero-add (form.head + 14)))

  fill_back : bits_of (fill_width end) 0 ≡ part (bits s) end (fill_width end)
  unfolding fill_of end
  fill_back =
      ap (bits_of (fill_width (row_at form n N))) (sym r.clear)
      ∙ part_again (bits s) (row_at form n N) (fill_width (row_at form n N)) (all_bits_bytes s) (omega (arith, length-bits s, r.whole))

  filled-back : filled (link_bits form n l v) ≡ bits (take (link_used form n N) s)
  unfolding filled end
  filled-back =
      let b = link_bits form n l v in
      let e = row_at form n N in
      ap (λ (k : ℕ). b ++ bits_of (fill_width k) 0) (length_link_bits form n l v ∙ ap (row_at form n) count_is)
      ∙ ap₂ (λ (x y : List ℕ). x ++ y) bits_back fill_back
      ∙ sym (part-more (bits s) 0 e (fill_width e) ∙ ap (λ (k : ℕ). part (bits s) 0 e ++ part (bits s) k (fill_width e)) (zero-add e))
      ∙ ap (part (bits s) 0) (omega arith)
      ∙ bits-take (link_used form n N) s r.whole

  -- the same used bytes
  pub read_written : AllBytes s → link_bytes form n (fars_of form n N s) (costs_of form n N s) ≡ take (link_used form n N) s
  unfolding link_bytes field_bytes link_bits l v
  read_written h =
      let b = link_bits form n l v in
      sym (packed_only b (all_bits_links form n l v) (take (link_used form n N) s) (all_bytes_take (link_used form n N) s h) (sym filled-back))
