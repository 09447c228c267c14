-- The rows put one behind the other, and the whole form. Assumes nothing.
use Rattle.std.specs.Prelude.{List, ◌≡◌, ℕ, ◌+◌, ◌-◌, ◌/◌, get_or, length}
use Rattle.std.proofs.Math.Path.{refl}
use Rattle.std.proofs.Common.{subst}
use Rattle.ground.specs.Buffers.{front}
use Rattle.bits.specs.Bits.{AllBytes, bits_of}
use Rattle.bits.specs.Forms.{field_bits, field_bytes}
use Rattle.bits.specs.declared.Form.{Form}
use Rattle.packer.specs.Gathering.{Finished, Part, Put}
use Rattle.packer.proofs.Laws.Finished.{form_packed}
use Rattle.packer.specs.Laws.Putting.{put_none, put_then}
use Rattle.packer.specs.Start.{start_bits, started}
use Rattle.packer.specs.declared.Gathered.{Gathered}
use Rattle.link_forms.specs.Form.{link_bytes, link_used, row_fields, rows_to}
use Rattle.link_forms.specs.Laws.Form.{all_bits_links, all_rows, front_bits, length_link_bits, link_parts, link_bits}
use Rattle.link_forms.specs.Laws.Rows.{row-bits, rows_more}

module _ (w n : ℕ) where
  -- a row: the images of the far side, then the cost
  pub row_put : (S c : ℕ) {old mid new : List ℕ} {g s r : Gathered} → Put (bits_of (n - 1) (S / 2)) old mid g s → Put (bits_of w c) mid new s r
      → Put (field_bits (row_fields w n S c)) old new g r
  row_put S c p q = put_then (row-bits w n S c) p q

  -- ## Row after row

  module _ (f v : ℕ → ℕ) where
    pub rows_put_none : (out : List ℕ) (g : Gathered) → Part g → Put (field_bits (rows_to w n f v 0)) out out g g
    unfolding rows_to field_bits
    rows_put_none out g h = put_none out g h

    pub rows_put_more : (k : ℕ) {old mid new : List ℕ} {g s r : Gathered} → Put (field_bits (rows_to w n f v k)) old mid g s
        → Put (field_bits (row_fields w n (f k) (v k))) mid new s r → Put (field_bits (rows_to w n f v (k + 1))) old new g r
    rows_put_more k p q = put_then (rows_more w n f v k) p q

    pub rows_put_end : {k N : ℕ} {old new : List ℕ} {g r : Gathered} → k ≡ N → Put (field_bits (rows_to w n f v k)) old new g r
        → Put (field_bits (rows_to w n f v N)) old new g r
    rows_put_end {old = old} {new = new} {g = g} {r = r} e p = subst (λ (m : ℕ). Put (field_bits (rows_to w n f v m)) old new g r) e p

-- ## The whole form: the mark and n, the row count, the rows, and then the fill bits

module _ (form : Form) (n : ℕ) (l v : List ℕ) where
  rows-put : {old begun mid new : List ℕ} {g s r : Gathered} → Put (start_bits form n) old begun started g
      → Put (bits_of 7 (length l)) begun mid g s
      → Put (field_bits (rows_to form.width n (λ k. get_or l k 0) (λ k. get_or v k 0) (length l))) mid new s r → Put (link_bits form n l v) old new started r
  unfolding front_bits all_rows
  rows-put p c q = put_then (link_parts form n l v) (put_then refl p c) q

  pub form_put : {old begun counted rowed new : List ℕ} {g s r : Gathered} {used : ℕ} → AllBytes new
      → Put (start_bits form n) old begun started g → Put (bits_of 7 (length l)) begun counted g s
      → Put (field_bits (rows_to form.width n (λ k. get_or l k 0) (λ k. get_or v k 0) (length l))) counted rowed s r → Finished rowed new r used
      → (used ≡ link_used form n (length l)) × (new ≡ front (link_bytes form n l v) old)
  unfolding link_bytes field_bytes link_bits
  form_put y p c q f = form_packed (all_bits_links form n l v) (length_link_bits form n l v) y (rows-put p c q) f
