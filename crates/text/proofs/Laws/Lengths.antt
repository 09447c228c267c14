-- How long a number with its blank can be, and numbers one behind the other. Assumes nothing.
use Rattle.std.specs.Prelude.{List, [], ◌++◌, ◌∷◌, ℕ, ◌*◌, ◌+◌, ◌≤◌, length}
use Rattle.std.proofs.Common.{arith, length-append}
use Rattle.text.specs.Fields.{field, fields}
use Rattle.text.proofs.Laws.Numbers.{decimal-most}
use Rattle.text.specs.Putting.{Fits}

pub field-most : (x : ℕ) → length (field x) ≤ 21
unfolding field
field-most x = omega (arith, decimal-most x)

pub fields-most : (l : List ℕ) → length (fields l) ≤ 21 * length l
unfolding fields
fields-most [] = omega arith
fields-most (x ∷ l) = simp length-append (omega (arith, field-most x, fields-most l))

-- a word with numbers behind it fits where there is room for the longest numbers
pub word_fields_fit : (w l : List ℕ) (p : ℕ) (o : List ℕ) → p + length w + 21 * length l ≤ length o → Fits (w ++ fields l) p o
word_fields_fit w l p o h = omega (arith, length-append w (fields l), fields-most l)

-- for code that writes numbers into room for the longest
pub ruleset longest = (decimal-most, field-most, fields-most)
