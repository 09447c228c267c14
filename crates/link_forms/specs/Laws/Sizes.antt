-- How large the numbers of a stored link table can be. Assumes nothing.
use Rattle.std.specs.Prelude.{◌≡◌, ℕ, ◌+◌, ◌<◌, ◌≤◌}
use Rattle.std.proofs.Common.{mul-le-mul, arith}
use Rattle.bits.specs.Laws.OneWidth.{field_end, times_more}
use Rattle.link_forms.specs.Form.{row_at, row_width}
use Rattle.link_forms.specs.Sizes.{Small, last_row_end}
use Rattle.bits.specs.declared.Form.{Form}

pub end_le : (form : Form) (n N : ℕ) → Small form n N → row_at form n N ≤ last_row_end
end_le form n N s =
    omega (arith, s.short, mul-le-mul {n₁ = row_width form.width n} {m₁ = N} {n₂ = 95} {m₂ = 125} (omega (arith, s.narrow, s.few)) s.rows)

-- row k stands before the end
pub row_within : (form : Form) (n N k : ℕ) → k < N → row_at form n k + row_width form.width n ≤ row_at form n N
row_within form n N k h = field_end (form.head + 14) (row_width form.width n) N k h

pub row_next : (form : Form) (n k : ℕ) → row_at form n (k + 1) ≡ row_at form n k + row_width form.width n
row_next form n k = omega (arith, times_more (row_width form.width n) k)
