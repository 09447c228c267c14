-- The two stored forms of each kind of table, and how bytes tell which of them they have. Assumes nothing.
use Rattle.std.specs.Prelude.{cond, List, ◌≡◌, suc, zero, ℕ, eqb}
use Rattle.bits.specs.Bits.{number_at}
use Rattle.bits.specs.declared.Edition.{Edition}
use Rattle.bits.specs.declared.Edition.TheVariants.{New, Old}
use Rattle.bits.specs.declared.Form.{Form}

-- what the new forms begin with, in 7 bits
abbrev pub new_mark : ℕ
new_mark = 127

-- the old form: nothing in front of n; so many bits for a number, and the limit on an entry
abbrev pub old_form : ℕ → ℕ → Form
old_form w L = record { head = 0; mark = 0; width = w; limit = L }

-- the new form: the mark in front of n, and then the old layout
abbrev pub new_form : ℕ → ℕ → Form
new_form w L = record { head = 7; mark = new_mark; width = w; limit = L }

-- which form the table has that the bytes s begin with: the first seven bits tell
unfoldable pub edition_of : List ℕ → Edition
edition_of s = cond (eqb (number_at s 0 7) new_mark) New Old

-- which form a number stands for: 0 is the old one, and every other number the new one
abbrev pub edition_by : ℕ → Edition
edition_by zero = Old
edition_by (suc k) = New

-- the mark of the form stands in front of the bytes s
abbrev pub Marked : Form → List ℕ → Type 0
Marked form s = number_at s 0 form.head ≡ form.mark

-- two forms that the first seven bits tell apart
pub record ToldApart (form : Edition → Form) : Type 0 where
  pub plain : ((form Old).head ≡ 0) × ((form Old).mark ≡ 0)
  pub marked : ((form New).head ≡ 7) × ((form New).mark ≡ new_mark)
