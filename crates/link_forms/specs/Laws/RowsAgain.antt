-- Rows that were read are the bits they stand in. Assumes nothing.
use Rattle.std.specs.Prelude.{List, ◌++◌, ◌≡◌, suc, zero, ℕ, ◌*◌, ◌+◌, ◌-◌, ◌/◌, ◌≤◌, length}
use Rattle.std.proofs.Common.{ap, ap₂, sym, ◌∙◌, mul-suc, mul-zero, arith}
use Rattle.bits.specs.Bits.{bits, bits_of, part, value_of}
use Rattle.bits.specs.Forms.{field_bits}
use Rattle.bits.specs.Laws.Numbers.{all_bits_bytes}
use Rattle.bits.specs.Laws.Parts.{part-more}
use Rattle.link_forms.specs.Form.{row_at, row_fields, row_width, rows_to}
use Rattle.link_forms.specs.Said.{cost_at, far_at}
use Rattle.bits.specs.declared.Form.{Form}
use Rattle.bits.specs.Laws.OneWidth.{part_again}
use Rattle.link_forms.specs.Laws.Rows.{row-bits, rows-suc}

-- row k read is the bits it stands in
row_again : (form : Form) (n : ℕ) (s : List ℕ) (k : ℕ) → row_at form n k + row_width form.width n ≤ length (bits s)
    → field_bits (row_fields form.width n (far_at form n s k) (cost_at form n s k)) ≡ part (bits s) (row_at form n k) (row_width form.width n)
unfolding far_at cost_at
row_again form n s k h =
    let l = bits s in
    let b = all_bits_bytes s in
    let p = row_at form n k in
    let x = value_of (part l p (n - 1)) in
    let q : 2 * x / 2 ≡ x = omega arith in
    row-bits form.width n (2 * x) (value_of (part l (p + (n - 1)) form.width))
    ∙ ap₂ (λ (y z : List ℕ). y ++ z) (ap (bits_of (n - 1)) q ∙ part_again l p (n - 1) b (omega arith)) (part_again l (p + (n - 1)) form.width b (omega arith))
    ∙ sym (part-more l p (n - 1) form.width)

-- the first m rows read are the bits they stand in
pub rows_again : (form : Form) (n : ℕ) (s : List ℕ) (m : ℕ) → row_at form n m ≤ length (bits s)
    → field_bits (rows_to form.width n (far_at form n s) (cost_at form n s) m) ≡ part (bits s) (form.head + 14) (row_width form.width n * m)
unfolding rows_to field_bits part
rows_again form n s zero h = rw mul-zero
rows_again form n s (suc m) h =
    let l = bits s in
    let ih = rows_again form n s m (omega (arith, mul-suc (row_width form.width n) m)) in
    rows-suc form.width n (far_at form n s) (cost_at form n s) m
    ∙ ap₂ (λ (x y : List ℕ). x ++ y) ih (row_again form n s m (omega (arith, mul-suc (row_width form.width n) m)))
    ∙ sym (ap (part l (form.head + 14)) (mul-suc (row_width form.width n) m)
    ∙ part-more l (form.head + 14) (row_width form.width n * m) (row_width form.width n))
