-- How large the numbers of a stored cost table can be. Assumes nothing.
use Rattle.std.specs.Prelude.{ℕ, ◌*◌, ◌+◌, ◌-◌, ◌<◌, ◌≤◌}
use Rattle.std.proofs.Common.{mul-le-mul, arith}
use Rattle.cost_forms.specs.Entries.{row_start}
use Rattle.cost_forms.specs.Form.{cost_end, row_at}
use Rattle.cost_forms.specs.Laws.Entries.{row-twice, row_within}
use Rattle.cost_forms.specs.Sizes.{Held, Small, Span, last_entry_end}
use Rattle.bits.specs.declared.Form.{Form}

pub square_le : {n : ℕ} → n ≤ 64 → n * n ≤ 4096
square_le h = mul-le-mul h h

pub count_le : (n i : ℕ) → n ≤ 64 → i ≤ n → row_start n i ≤ 4096
count_le n i h k = omega (arith, row-twice n i k, mul-le-mul {n₁ = i} {m₁ = n} {n₂ = 64} {m₂ = 64} (omega arith) h)

pub at_le : (form : Form) (n i : ℕ) → Small form n → i ≤ n → row_at form n i ≤ last_entry_end
at_le form n i s h = omega (arith, s.short, mul-le-mul {n₁ = form.width} {m₁ = row_start n i} {n₂ = 32} {m₂ = 4096} s.narrow (count_le n i s.few h))

pub end_le : (form : Form) (n : ℕ) → Small form n → cost_end form n ≤ last_entry_end
end_le form n s = at_le form n n s (omega arith)

-- the entries of row i stand within the bytes
pub row_span : (form : Form) (n i bytes : ℕ) → Held form n bytes → i < n → Span (row_at form n i) form.width (n - (i + 1)) bytes
row_span form n i bytes h l =
    let r = row_within n form.width i l in
    record { narrow = h.small.narrow; within = omega (arith, r, h.within); counted = omega (arith, r, end_le form n h.small) }
