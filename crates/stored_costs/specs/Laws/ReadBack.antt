-- Reading what was written gives the table back, whatever bytes follow. Assumes nothing.
use mathlib.Core.List.{List, append_assoc, ◌++◌}
use Rattle.std.proofs.Math.Path.{ap, sym}
use Rattle.std.proofs.Common.{subst, ◌∙◌, lt_of_le_of_lt, arith, pow_pos, get_or-append-add, ltb-false, ltb-true}
use Rattle.std.specs.Prelude.{◌≡◌, suc, zero, ℕ, ◌*◌, ◌+◌, ◌-◌, ◌<◌, ◌^◌, ◌≤◌, ltb, get_or, length}
use Rattle.std.proofs.Math.ListN.{get_or-append, get_or-eq_default, length-append}
use borrow.Table.Steps.{cases}
use Rattle.theory.specs.Tables.{CostTable, cost}
use Rattle.bits.specs.Bits.{bits, bits_of, part, value_of}
use Rattle.bits.specs.Forms.{field_value, fill_width}
use Rattle.bits.specs.Laws.Numbers.{length-bits_of, value-bits}
use Rattle.bits.specs.Laws.OneWidth.{field-value}
use Rattle.bits.specs.Laws.Parts.{part_cut}
use Rattle.bits.specs.Laws.Listed.{listed_at}
use Rattle.cost_forms.specs.Entries.{entries, entries_to, entry_count, entry_number, row_entries}
use Rattle.cost_forms.specs.Form.{cost_bytes, cost_end}
use Rattle.cost_forms.specs.Said.{stored_table, entry_of, fill_of, images_of}
use Rattle.cost_forms.specs.Laws.Entries.{entry_is, length-entries, length-row, number_lt}
use Rattle.cost_forms.specs.Laws.Form.{bits_costs_then, entry_bits, length-costs, length_entry_bits, length_front}
use Rattle.cost_forms.specs.Laws.Tables.{table_is}
use Rattle.bits.specs.declared.Form.{Form}
use Rattle.stored_costs.specs.Stored.{Readable}

-- no entry is above what the costs are not above
entries_small : (d : ℕ → ℕ → ℕ) (n L : ℕ) → ((i j : ℕ) → i < j → j < n → d i j ≤ L) → (k : ℕ) → get_or (entries d n) k 0 ≤ L
unfolding row_entries entries_to
entries_small d n L h k = go n (omega arith) k
  where
    row : (i : ℕ) → i < n → (k : ℕ) → get_or (row_entries d n i) k 0 ≤ L
    row i l k =
        let f : ℕ → ℕ = λ k. d i (i + 1 + k) in
        cases (ltb k (n - (i + 1)))
        (λ e. rw (listed_at f (n - (i + 1)) k (ltb-true k (n - (i + 1)) e)) (h i (i + 1 + k) (omega arith) (omega (arith, ltb-true k (n - (i + 1)) e))))
        (λ e. rw (get_or-eq_default (row_entries d n i) 0 {n = k} (omega (arith, length-row d n i, ltb-false k (n - (i + 1)) e))) (omega arith))

    go : (m : ℕ) → m ≤ n → (k : ℕ) → get_or (entries_to d n m) k 0 ≤ L
    go zero l k = omega arith
    go (suc m) l k =
        let a = entries_to d n m in
        let b = row_entries d n m in
        let ih = go m (omega arith) k in
        cases (ltb k (length a))
        (λ e. rw (get_or-append a b 0 k (ltb-true k (length a) e)) ih)
        (λ e.
        let q : k ≡ length a + (k - length a) = omega (arith, ltb-false k (length a) e) in
        subst (λ (x : ℕ). get_or (a ++ b) x 0 ≤ L) (sym q) (rw (get_or-append-add a b (k - length a) 0) (row m (omega arith) (k - length a))))

module _ (form : Form) (n : ℕ) (t behind : List ℕ) (c : CostTable form.limit n t) (fits : form.limit < 2 ^ form.width) where
  stored : List ℕ
  stored = cost_bytes form n (cost t n) ++ behind

  fill : List ℕ
  fill = bits_of (fill_width (cost_end form n)) 0

  stored_bits : bits stored ≡ (bits_of form.head form.mark ++ bits_of 7 n) ++ (entry_bits form n (cost t n) ++ (fill ++ bits behind))
  unfolding stored fill
  stored_bits = bits_costs_then form n (cost t n) behind

  images_is : images_of form stored ≡ n
  unfolding images_of
  images_is =
      let r = entry_bits form n (cost t n) ++ (fill ++ bits behind) in
      ap (λ (l : List ℕ). value_of (part l form.head 7)) (stored_bits ∙ append_assoc (bits_of form.head form.mark) (bits_of 7 n) r)
      ∙ ap value_of (part_cut (bits_of form.head form.mark) (bits_of 7 n) r form.head 7 (length-bits_of form.head form.mark) (length-bits_of 7 n))
      ∙ value-bits 7 n (omega (arith, c.few))

  entry_read : (k : ℕ) → k < entry_count n → entry_of form stored k ≡ get_or (entries (cost t n) n) k 0
  unfolding entry_of entry_bits
  entry_read k h =
      let v = entries (cost t n) n in
      ap (λ (l : List ℕ). field_value l (form.head + 7) form.width k) stored_bits
      ∙ field-value form.width (bits_of form.head form.mark ++ bits_of 7 n) v (fill ++ bits behind) (form.head + 7) k (length_front form n (cost t n))
      (omega (arith, length-entries (cost t n) n n))
      (lt_of_le_of_lt (entries_small (cost t n) n form.limit (λ i j l m. c.formed.small (omega arith) m) k) fits)

  fill_is : fill_of form n stored ≡ 0
  unfolding fill_of fill
  fill_is =
      let e = entry_bits form n (cost t n) in
      let a = bits_of form.head form.mark ++ bits_of 7 n in
      ap (λ (l : List ℕ). value_of (part l (cost_end form n) (fill_width (cost_end form n)))) (stored_bits ∙ sym (append_assoc a e (fill ++ bits behind)))
      ∙ ap value_of (part_cut (a ++ e) fill (bits behind) (cost_end form n) (fill_width (cost_end form n))
      (omega (arith, length-append a e, length_front form n (cost t n), length_entry_bits form n (cost t n))) (length-bits_of _ 0))
      ∙ value-bits (fill_width (cost_end form n)) 0 (pow_pos (fill_width (cost_end form n)))

  pub written_images : images_of form (cost_bytes form n (cost t n) ++ behind) ≡ n
  unfolding stored
  written_images = images_is

  -- it is accepted, where there is room
  pub written_readable : (room : ℕ) → n * n ≤ room → Readable form (cost_bytes form n (cost t n) ++ behind) room
  unfolding stored
  written_readable room h =
      let lc = length-costs form n (cost t n) in
      let la = length-append (cost_bytes form n (cost t n)) behind in
      record {
        begun = omega (arith, lc, la);
        some = rw images_is c.some;
        few = rw images_is c.few;
        roomy = rw images_is h;
        whole = rw images_is (omega (arith, lc, la));
        clear = rw images_is fill_is;
        fine = λ i j l m.
            let k : j < n = rw images_is at m in
            rw (images_is, entry_read (entry_number n i j) (number_lt n i j l k), entry_is (cost t n) n i j l k) (c.formed.small (omega arith) k);
        nonzero = λ i j l m.
            let k : j < n = rw images_is at m in
            rw (images_is, entry_read (entry_number n i j) (number_lt n i j l k), entry_is (cost t n) n i j l k)
            (c.formed.nonzero (omega arith) k (λ e. omega arith));
      }

  -- and the table is the one that was written
  pub written_costs_of : stored_table form n (cost_bytes form n (cost t n) ++ behind) ≡ t
  unfolding stored
  written_costs_of = table_is form.limit n t c (entry_of form stored) entry_read
