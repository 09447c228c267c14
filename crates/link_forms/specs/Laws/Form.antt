-- The form of a stored link table: its parts and its length. Assumes nothing.
use mathlib.Core.List.{List, append_assoc, ◌++◌}
use Rattle.std.proofs.Math.Path.{ap, sym}
use Rattle.std.proofs.Common.{◌∙◌, arith}
use Rattle.std.specs.Prelude.{◌≡◌, ℕ, ◌*◌, ◌+◌, length}
use Rattle.std.proofs.Math.ListN.{get_or, length-append}
use Rattle.bits.specs.Bits.{AllBits, bits, bits_of}
use Rattle.bits.specs.Forms.{bytes_for, fill_width, field_bits, field_bytes}
use Rattle.bits.specs.Laws.Forms.{all_bits_form}
use Rattle.bits.specs.Laws.Numbers.{length-bits_of}
use Rattle.bits.specs.Laws.Packed.{bits_packed_then, length-packed}
use Rattle.link_forms.specs.Form.{link_bytes, link_fields, link_used, row_at, row_width, rows_to}
use Rattle.link_forms.specs.Laws.Rows.{length-rows}
use Rattle.bits.specs.declared.Form.{Form}

module _ (form : Form) (n : ℕ) (l v : List ℕ) where
  -- the bits in front of the rows
  unfoldable pub front_bits : List ℕ
  front_bits = (bits_of form.head form.mark ++ bits_of 7 n) ++ bits_of 7 (length l)

  -- the bits of the rows
  unfoldable pub all_rows : List ℕ
  all_rows = field_bits (rows_to form.width n (λ k. get_or l k 0) (λ k. get_or v k 0) (length l))

  -- all bits, without the fill bits
  unfoldable pub link_bits : List ℕ
  link_bits = field_bits (link_fields form n l v)

  pub link_parts : link_bits ≡ front_bits ++ all_rows
  unfolding front_bits all_rows link_bits link_fields field_bits
  link_parts =
      let h = bits_of form.head form.mark in
      let m = bits_of 7 n in
      let c = bits_of 7 (length l) in
      sym (append_assoc (h ++ m) c all_rows ∙ append_assoc h m (c ++ all_rows))

  pub length_all_rows : length all_rows ≡ row_width form.width n * length l
  unfolding all_rows
  length_all_rows = length-rows form.width n (λ k. get_or l k 0) (λ k. get_or v k 0) (length l)

  length_two : length (bits_of form.head form.mark ++ bits_of 7 n) ≡ form.head + 7
  length_two = omega (arith, length-append (bits_of form.head form.mark) (bits_of 7 n), length-bits_of form.head form.mark, length-bits_of 7 n)

  pub length_front : length front_bits ≡ form.head + 14
  unfolding front_bits
  length_front = omega (arith, length_two, length-append (bits_of form.head form.mark ++ bits_of 7 n) (bits_of 7 (length l)), length-bits_of 7 (length l))

  pub length_link_bits : length link_bits ≡ row_at form n (length l)
  length_link_bits = ap length link_parts ∙ omega (arith, length-append front_bits all_rows, length_front, length_all_rows)

  pub all_bits_links : AllBits link_bits
  unfolding link_bits
  all_bits_links = all_bits_form (link_fields form n l v)

  -- the exact count of bytes
  pub length_links : length (link_bytes form n l v) ≡ link_used form n (length l)
  unfolding link_bytes field_bytes link_bits
  length_links = length-packed link_bits ∙ ap bytes_for length_link_bits

  -- what follows the bytes follows the fill bits
  pub bits_links_then : (behind : List ℕ)
      → bits (link_bytes form n l v ++ behind) ≡ front_bits ++ (all_rows ++ (bits_of (fill_width (row_at form n (length l))) 0 ++ bits behind))
  unfolding link_bytes field_bytes link_bits
  bits_links_then behind =
      let z = bits_of (fill_width (row_at form n (length l))) 0 in
      bits_packed_then link_bits all_bits_links behind
      ∙ ap (λ (x : ℕ). link_bits ++ (bits_of (fill_width x) 0 ++ bits behind)) length_link_bits
      ∙ ap (λ (x : List ℕ). x ++ (z ++ bits behind)) link_parts
      ∙ append_assoc front_bits all_rows (z ++ bits behind)
