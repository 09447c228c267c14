-- The stored link table: the form's mark in front, n in 7 bits, the row count in 7, then per row images n down to 2 as one bit each and the
-- doubled cost in as many bits as the form says, and bits 0 to a whole byte. Assumes nothing.
use Rattle.std.specs.Prelude.{List, [], ◌++◌, ◌∷◌, suc, zero, ℕ, ◌*◌, ◌+◌, ◌-◌, ◌/◌, drop, get_or, length}
use Rattle.theory.specs.Tables.{limit, old_limit}
use Rattle.bits.specs.Editions.{edition_of, new_form, old_form}
use Rattle.bits.specs.Forms.{Field, bytes_for, field, field_bytes}
use Rattle.bits.specs.declared.Edition.{Edition}
use Rattle.bits.specs.declared.Edition.TheVariants.{New, Old}
use Rattle.bits.specs.declared.Form.{Form}

-- the old form: 21 bits for a doubled cost, which is at most twice document 01's limit
abbrev pub old_links : Form
old_links = old_form 21 old_limit

-- the new form: the mark in front, and 24 bits for a doubled cost, which is at most twice the limit
abbrev pub new_links : Form
new_links = new_form 24 limit

abbrev pub link_form : Edition → Form
link_form Old = old_links
link_form New = new_links

-- the form of the table at the position, which its first seven bits tell
abbrev pub link_form_at : List ℕ → ℕ → Form
link_form_at bytes position = link_form (edition_of (drop (position / 8) bytes))

-- the two fields of a row: the images of the far side S but the first, which are half of S, and the doubled cost c
abbrev pub row_fields : ℕ → ℕ → ℕ → ℕ → List Field
row_fields w n S c = field (n - 1) (S / 2) ∷ field w c ∷ []

-- those of the first k rows, where f has the far sides and g the doubled costs by the rows' numbers
unfoldable pub rows_to : ℕ → ℕ → (ℕ → ℕ) → (ℕ → ℕ) → ℕ → List Field
rows_to w n f g zero = []
rows_to w n f g (suc k) = rows_to w n f g k ++ row_fields w n (f k) (g k)

-- the fields of the table with the far sides l and the doubled costs v
unfoldable pub link_fields : Form → ℕ → List ℕ → List ℕ → List Field
link_fields form n l v = field form.head form.mark ∷ field 7 n ∷ field 7 (length l) ∷ rows_to form.width n (λ k. get_or l k 0) (λ k. get_or v k 0) (length l)

-- its bytes
unfoldable pub link_bytes : Form → ℕ → List ℕ → List ℕ → List ℕ
link_bytes form n l v = field_bytes (link_fields form n l v)

-- how many bits a row has
abbrev pub row_width : ℕ → ℕ → ℕ
row_width w n = n - 1 + w

-- where row k begins
abbrev pub row_at : Form → ℕ → ℕ → ℕ
row_at form n k = form.head + 14 + row_width form.width n * k

-- the bytes used by N rows
abbrev pub link_used : Form → ℕ → ℕ → ℕ
link_used form n N = bytes_for (row_at form n N)
