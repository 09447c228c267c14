-- The stored cost table: the form's mark in front, n in 7 bits, each entry in as many bits as the form says, and bits 0 to a whole byte.
-- Assumes nothing.
use Rattle.std.specs.Prelude.{List, ◌∷◌, ℕ, ◌*◌, ◌+◌, ◌/◌, drop}
use Rattle.theory.specs.Tables.{limit, old_limit}
use Rattle.bits.specs.Editions.{edition_of, new_form, old_form}
use Rattle.bits.specs.Forms.{Field, bytes_for, field, fields_of, field_bytes}
use Rattle.cost_forms.specs.Entries.{entries, row_start}
use Rattle.bits.specs.declared.Edition.{Edition}
use Rattle.bits.specs.declared.Edition.TheVariants.{New, Old}
use Rattle.bits.specs.declared.Form.{Form}

-- the old form: 20 bits for an entry, and document 01's limit
abbrev pub old_costs : Form
old_costs = old_form 20 old_limit

-- the new form: the mark in front, 23 bits for an entry, and the limit of a cost table
abbrev pub new_costs : Form
new_costs = new_form 23 limit

abbrev pub cost_form : Edition → Form
cost_form Old = old_costs
cost_form New = new_costs

-- the form of the table at the position, which its first seven bits tell
abbrev pub cost_form_at : List ℕ → ℕ → Form
cost_form_at bytes position = cost_form (edition_of (drop (position / 8) bytes))

-- the fields
unfoldable pub cost_fields : Form → ℕ → (ℕ → ℕ → ℕ) → List Field
cost_fields form n d = field form.head form.mark ∷ field 7 n ∷ fields_of form.width (entries d n)

-- the bytes
unfoldable pub cost_bytes : Form → ℕ → (ℕ → ℕ → ℕ) → List ℕ
cost_bytes form n d = field_bytes (cost_fields form n d)

-- where row i begins, which is where the rows before it end
abbrev pub row_at : Form → ℕ → ℕ → ℕ
row_at form n i = form.head + 7 + form.width * row_start n i

-- where the entries end
abbrev pub cost_end : Form → ℕ → ℕ
cost_end form n = row_at form n n

-- the bytes used
abbrev pub cost_used : Form → ℕ → ℕ
cost_used form n = bytes_for (cost_end form n)
