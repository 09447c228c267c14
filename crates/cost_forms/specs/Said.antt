-- What the bytes s say when they are read as a stored cost table. Assumes nothing.
use Rattle.std.specs.Prelude.{List, ℕ, ◌+◌}
use Rattle.bits.specs.Bits.{bits, part, value_of}
use Rattle.bits.specs.Forms.{field_value, fill_width}
use Rattle.bits.specs.declared.Form.{Form}
use Rattle.cost_forms.specs.Entries.{table_of}
use Rattle.cost_forms.specs.Form.{cost_end}

-- n
unfoldable pub images_of : Form → List ℕ → ℕ
images_of form s = value_of (part (bits s) form.head 7)

-- entry k, in the stored order
unfoldable pub entry_of : Form → List ℕ → ℕ → ℕ
entry_of form s k = field_value (bits s) (form.head + 7) form.width k

-- the value of the fill bits
unfoldable pub fill_of : Form → ℕ → List ℕ → ℕ
fill_of form n s = value_of (part (bits s) (cost_end form n) (fill_width (cost_end form n)))

-- the table
abbrev pub stored_table : Form → ℕ → List ℕ → List ℕ
stored_table form n s = table_of (entry_of form s) n
