-- The entries taken from one form and put in the width of another. Assumes nothing.
use Rattle.std.specs.Prelude.{List, ℕ, ◌*◌, ◌+◌, ◌<◌}
use Rattle.std.proofs.Common.{arith}
use Rattle.theory.specs.Tables.{cost}
use Rattle.bits.specs.Bits.{FieldWithin}
use Rattle.bits.specs.Forms.{field_bits, fields_of}
use Rattle.bits.specs.Laws.OneWidth.{field_end}
use Rattle.bits.specs.Listed.{listed}
use Rattle.bits.specs.declared.Form.{Form}
use Rattle.packer.specs.Gathering.{Put}
use Rattle.packer.specs.declared.Gathered.{Gathered}
use Rattle.cost_forms.specs.Entries.{entries, entry_count}
use Rattle.cost_forms.specs.Said.{entry_of, stored_table}
use Rattle.cost_forms.specs.Laws.Sizes.{end_le}
use Rattle.cost_forms.specs.Laws.Tables.{table-entries}
use Rattle.cost_forms.specs.Sizes.{Held}

-- entry k stands within the bytes
pub entry_within : (from : Form) (n k : ℕ) {m : ℕ} → Held from n m → k < entry_count n → FieldWithin m (from.head + 7 + from.width * k) from.width
entry_within from n k h l =
    let f = field_end (from.head + 7) from.width (entry_count n) k l in
    record { width = omega (arith, h.small.narrow); within = omega (arith, f, h.within); counted = omega (arith, f, end_le from n h.small) }

-- all of them are the entries of the table that the bytes say
pub entries_taken : (from : Form) (w n : ℕ) (s : List ℕ) {old new : List ℕ} {g r : Gathered}
    → Put (field_bits (fields_of w (listed (entry_of from s) (entry_count n)))) old new g r
    → Put (field_bits (fields_of w (entries (cost (stored_table from n s) n) n))) old new g r
entries_taken from w n s p = rw (table-entries (entry_of from s) n) p
