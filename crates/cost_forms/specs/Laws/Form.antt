-- The form of a stored cost table: its parts and its length. Assumes nothing.
use mathlib.Core.List.{List, append_assoc, ◌++◌}
use Rattle.std.proofs.Math.Path.{ap, sym}
use Rattle.std.proofs.Common.{◌∙◌, arith, length-append}
use Rattle.std.specs.Prelude.{◌≡◌, ℕ, ◌*◌, ◌+◌, length}
use Rattle.bits.specs.Bits.{AllBits, bits, bits_of}
use Rattle.bits.specs.Forms.{bytes_for, fields_of, fill_width, field_bits, field_bytes}
use Rattle.bits.specs.Laws.Forms.{all_bits_form}
use Rattle.bits.specs.Laws.Numbers.{length-bits_of}
use Rattle.bits.specs.Laws.OneWidth.{length_fields}
use Rattle.bits.specs.Laws.Packed.{bits_packed_then, length-packed}
use Rattle.cost_forms.specs.Entries.{entries, entry_count}
use Rattle.cost_forms.specs.Form.{cost_bytes, cost_end, cost_fields, cost_used}
use Rattle.cost_forms.specs.Laws.Entries.{length-entries}
use Rattle.bits.specs.declared.Form.{Form}

module _ (form : Form) (n : ℕ) (d : ℕ → ℕ → ℕ) where
  -- the bits of the entries
  unfoldable pub entry_bits : List ℕ
  entry_bits = field_bits (fields_of form.width (entries d n))

  -- all bits, without the fill bits
  unfoldable pub cost_bits : List ℕ
  cost_bits = field_bits (cost_fields form n d)

  pub cost_parts : cost_bits ≡ (bits_of form.head form.mark ++ bits_of 7 n) ++ entry_bits
  unfolding cost_bits entry_bits cost_fields field_bits
  cost_parts = sym (append_assoc (bits_of form.head form.mark) (bits_of 7 n) entry_bits)

  pub length_entry_bits : length entry_bits ≡ form.width * entry_count n
  unfolding entry_bits
  length_entry_bits = length_fields form.width (entries d n) ∙ ap (λ (x : ℕ). form.width * x) (length-entries d n n)

  pub length_front : length (bits_of form.head form.mark ++ bits_of 7 n) ≡ form.head + 7
  length_front = omega (arith, length-append (bits_of form.head form.mark) (bits_of 7 n), length-bits_of form.head form.mark, length-bits_of 7 n)

  pub length_cost_bits : length cost_bits ≡ cost_end form n
  length_cost_bits =
      ap length cost_parts ∙ omega (arith, length-append (bits_of form.head form.mark ++ bits_of 7 n) entry_bits, length_front, length_entry_bits)

  pub all_bits_costs : AllBits cost_bits
  unfolding cost_bits
  all_bits_costs = all_bits_form (cost_fields form n d)

  -- the exact count of bytes
  pub length-costs : length (cost_bytes form n d) ≡ cost_used form n
  unfolding cost_bytes field_bytes cost_bits
  length-costs = length-packed cost_bits ∙ ap bytes_for length_cost_bits

  -- what follows the bytes follows the fill bits
  pub bits_costs_then : (behind : List ℕ) → bits (cost_bytes form n d ++ behind)
      ≡ (bits_of form.head form.mark ++ bits_of 7 n) ++ (entry_bits ++ (bits_of (fill_width (cost_end form n)) 0 ++ bits behind))
  unfolding cost_bytes field_bytes cost_bits
  bits_costs_then behind =
      let fill = bits_of (fill_width (cost_end form n)) 0 in
      bits_packed_then cost_bits all_bits_costs behind
      ∙ ap (λ (x : ℕ). cost_bits ++ (bits_of (fill_width x) 0 ++ bits behind)) length_cost_bits
      ∙ ap (λ (x : List ℕ). x ++ (fill ++ bits behind)) cost_parts
      ∙ append_assoc (bits_of form.head form.mark ++ bits_of 7 n) entry_bits (fill ++ bits behind)
