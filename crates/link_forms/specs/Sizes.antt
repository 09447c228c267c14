-- What the functions below the public calls are given. Assumes nothing.
use Rattle.std.specs.Prelude.{ℕ, ◌*◌, ◌≤◌}
use Rattle.link_forms.specs.Form.{row_at}
use Rattle.bits.specs.declared.Form.{Form}

-- where the most rows of the most images end, in the widest form, counted in bits
abbrev pub last_row_end : ℕ
last_row_end = 11896

-- numbers so small that nothing overflows
pub record Small (form : Form) (n N : ℕ) : Type 0 where
  pub short : form.head ≤ 7
  pub narrow : form.width ≤ 32
  pub some : 3 ≤ n
  pub few : n ≤ 64
  pub rows : N ≤ 125

-- and N rows stand within so many bytes
pub record Held (form : Form) (n N bytes : ℕ) : Type 0 where
  pub small : Small form n N
  pub within : row_at form n N ≤ 8 * bytes
