-- What the functions below the public calls are given. Assumes nothing.
use Rattle.std.specs.Prelude.{ℕ, ◌*◌, ◌+◌, ◌≤◌}
use Rattle.cost_forms.specs.Form.{cost_end}
use Rattle.bits.specs.declared.Form.{Form}

-- no entry ends behind this bit
abbrev pub last_entry_end : ℕ
last_entry_end = 131086

-- numbers so small that nothing overflows
pub record Small (form : Form) (n : ℕ) : Type 0 where
  pub short : form.head ≤ 7
  pub narrow : form.width ≤ 32
  pub few : n ≤ 64

-- and the entries stand within so many bytes
pub record Held (form : Form) (n bytes : ℕ) : Type 0 where
  pub small : Small form n
  pub within : cost_end form n ≤ 8 * bytes

-- so many fields of width w from the position on stand within so many bytes
pub record Span (position w count bytes : ℕ) : Type 0 where
  pub narrow : w ≤ 32
  pub within : position + w * count ≤ 8 * bytes
  pub counted : position + w * count ≤ last_entry_end
