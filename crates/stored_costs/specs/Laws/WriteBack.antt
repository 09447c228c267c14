-- What was read is a cost table, and writing it gives the same used bytes. Assumes nothing.
use mathlib.Core.List.{List, ◌++◌}
use Rattle.std.proofs.Math.Path.{ap, ap₂, sym}
use Rattle.std.proofs.Common.{◌∙◌, zero-add, arith}
use Rattle.std.specs.Prelude.{◌≡◌, ℕ, ◌*◌, ◌+◌, take}
use Rattle.theory.specs.Tables.{CostTable, cost}
use Rattle.bits.specs.Bits.{AllBytes, bits, bits_of, part}
use Rattle.bits.specs.Editions.{Marked}
use Rattle.bits.specs.Forms.{fields_of, fill_width, filled, field_bits, field_bytes}
use Rattle.bits.specs.Laws.Bytes.{length-bits}
use Rattle.bits.specs.Laws.Numbers.{all_bits_bytes}
use Rattle.bits.specs.Laws.OneWidth.{fields-part, part_again}
use Rattle.bits.specs.Laws.Packed.{packed_only}
use Rattle.bits.specs.Laws.Parts.{part-more}
use Rattle.bits.specs.Laws.Written.{all_bytes_take, bits-take}
use Rattle.cost_forms.specs.Entries.{entry_count}
use Rattle.cost_forms.specs.Form.{cost_bytes, cost_end, cost_used}
use Rattle.cost_forms.specs.Said.{stored_table, entry_of, fill_of, images_of}
use Rattle.cost_forms.specs.Laws.Form.{all_bits_costs, cost_parts, cost_bits, entry_bits, length_cost_bits}
use Rattle.cost_forms.specs.Laws.Tables.{table-entries, table_formed}
use Rattle.bits.specs.declared.Form.{Form}
use Rattle.stored_costs.specs.Stored.{Readable}

-- what was read is a cost table
pub read_table : (form : Form) (s : List ℕ) (room : ℕ) → Readable form s room → CostTable form.limit (images_of form s) (stored_table form (images_of form s) s)
read_table form s room r = table_formed (entry_of form s) (images_of form s) form.limit r.some r.few r.fine r.nonzero

module _ (form : Form) (s : List ℕ) (room : ℕ) (r : Readable form s room) (marked : Marked form s) where
  n : ℕ
  n = images_of form s

  entries_again : entry_bits form n (cost (stored_table form n s) n) ≡ part (bits s) (form.head + 7) (form.width * entry_count n)
  unfolding entry_bits entry_of n
  entries_again =
      ap (λ (l : List ℕ). field_bits (fields_of form.width l)) (table-entries (entry_of form s) (images_of form s))
      ∙ fields-part (bits s) (form.head + 7) form.width (entry_count (images_of form s)) (all_bits_bytes s) (omega (arith, length-bits s, r.whole))

  front_again : bits_of form.head form.mark ++ bits_of 7 n ≡ part (bits s) 0 (form.head + 7)
  unfolding images_of n
  front_again =
      let b = all_bits_bytes s in
      let l = length-bits s in
      ap₂ (λ (x y : List ℕ). x ++ y) (ap (bits_of form.head) (sym marked) ∙ part_again (bits s) 0 form.head b (omega (arith, r.begun)))
      (part_again (bits s) form.head 7 b (omega (arith, r.begun)))
      ∙ sym (part-more (bits s) 0 form.head 7 ∙ ap (λ (k : ℕ). part (bits s) 0 form.head ++ part (bits s) k 7) (zero-add form.head))

  bits_again : cost_bits form n (cost (stored_table form n s) n) ≡ part (bits s) 0 (cost_end form n)
  bits_again =
      cost_parts form n (cost (stored_table form n s) n)
      ∙ ap₂ (λ (x y : List ℕ). x ++ y) front_again entries_again
      ∙ sym (part-more (bits s) 0 (form.head + 7) (form.width * entry_count n)
      ∙ ap (λ (k : ℕ). part (bits s) 0 (form.head + 7) ++ part (bits s) k (form.width * entry_count n)) (zero-add (form.head + 7)))

  fill_again : bits_of (fill_width (cost_end form n)) 0 ≡ part (bits s) (cost_end form n) (fill_width (cost_end form n))
  unfolding fill_of n
  fill_again =
      ap (bits_of (fill_width (cost_end form (images_of form s)))) (sym r.clear)
      ∙ part_again (bits s) (cost_end form (images_of form s)) (fill_width (cost_end form (images_of form s))) (all_bits_bytes s)
      (omega (arith, length-bits s, r.whole))

  filled_again : filled (cost_bits form n (cost (stored_table form n s) n)) ≡ bits (take (cost_used form n) s)
  unfolding filled n
  filled_again =
      let e = cost_end form (images_of form s) in
      let b = cost_bits form (images_of form s) (cost (stored_table form (images_of form s) s) (images_of form s)) in
      ap (λ (k : ℕ). b ++ bits_of (fill_width k) 0) (length_cost_bits form (images_of form s) (cost (stored_table form (images_of form s) s) (images_of form s)))
      ∙ ap₂ (λ (x y : List ℕ). x ++ y) bits_again fill_again
      ∙ sym (part-more (bits s) 0 e (fill_width e) ∙ ap (λ (k : ℕ). part (bits s) 0 e ++ part (bits s) k (fill_width e)) (zero-add e))
      ∙ ap (part (bits s) 0) (omega arith)
      ∙ bits-take (cost_used form (images_of form s)) s r.whole

  -- the same used bytes
  pub read_written : AllBytes s
      → cost_bytes form (images_of form s) (cost (stored_table form (images_of form s) s) (images_of form s)) ≡ take (cost_used form (images_of form s)) s
  unfolding cost_bytes field_bytes cost_bits n
  read_written h =
      let d = cost (stored_table form (images_of form s) s) (images_of form s) in
      sym (packed_only (cost_bits form (images_of form s) d) (all_bits_costs form (images_of form s) d) (take (cost_used form (images_of form s)) s)
      (all_bytes_take (cost_used form (images_of form s)) s h) (sym filled_again))
