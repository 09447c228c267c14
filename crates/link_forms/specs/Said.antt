-- What the bytes s say when they are read as a stored link table. Assumes nothing.
use Rattle.std.specs.Prelude.{List, ℕ, ◌*◌, ◌+◌, ◌-◌}
use Rattle.bits.specs.Bits.{bits, part, value_of}
use Rattle.bits.specs.Forms.{fill_width}
use Rattle.bits.specs.Listed.{listed}
use Rattle.link_forms.specs.Form.{link_used, row_at}
use Rattle.bits.specs.declared.Form.{Form}

-- n
unfoldable pub images_of : Form → List ℕ → ℕ
images_of form s = value_of (part (bits s) form.head 7)

-- the row count
unfoldable pub count_of : Form → List ℕ → ℕ
count_of form s = value_of (part (bits s) (form.head + 7) 7)

-- the far side of row k: image 1 is in none
unfoldable pub far_at : Form → ℕ → List ℕ → ℕ → ℕ
far_at form n s k = 2 * value_of (part (bits s) (row_at form n k) (n - 1))

-- the doubled cost of row k
unfoldable pub cost_at : Form → ℕ → List ℕ → ℕ → ℕ
cost_at form n s k = value_of (part (bits s) (row_at form n k + (n - 1)) form.width)

-- the value of the fill bits behind N rows
unfoldable pub fill_of : Form → ℕ → ℕ → List ℕ → ℕ
fill_of form n N s = value_of (part (bits s) (row_at form n N) (fill_width (row_at form n N)))

-- the far sides of N rows
abbrev pub fars_of : Form → ℕ → ℕ → List ℕ → List ℕ
fars_of form n N s = listed (far_at form n s) N

-- their doubled costs
abbrev pub costs_of : Form → ℕ → ℕ → List ℕ → List ℕ
costs_of form n N s = listed (cost_at form n s) N

-- the bytes used by the table that s begins with
abbrev pub used_of : Form → List ℕ → ℕ
used_of form s = link_used form (images_of form s) (count_of form s)
