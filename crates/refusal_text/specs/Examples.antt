-- Settled examples of texts, computed. Assumes nothing.
use Rattle.std.specs.Prelude.{refl, ◌≡◌}
use Rattle.text.specs.Decimal.{decimal, digits}
use Rattle.text.specs.Fields.{field, fields}
use Rattle.text.specs.Words.{bytes_of}
use Rattle.phrases.specs.Said.{saying_text}
use Rattle.sayings.specs.Said.{said_of}
use Rattle.phrases.specs.Saying.{saying_in}
use Rattle.sayings.specs.Sayings.{sayings, sayings_from12, sayings_from16, sayings_from20, sayings_from4, sayings_from8}
use Rattle.refusal_text.specs.Text.{about_table, refusal_text}

-- 0 names neither table nor places
pub accepted : refusal_text 0 3 1 2 3 5 ≡ bytes_of "accepted"
unfolding refusal_text about_table said_of saying_text saying_in sayings bytes_of fields
accepted = refl

pub no_wiring : refusal_text 7 0 1 2 3 5 ≡ bytes_of "no wiring: images 1 2 3 5"
unfolding refusal_text about_table said_of saying_text saying_in sayings sayings_from4 bytes_of fields field decimal digits
no_wiring = refl

pub bad_length : refusal_text 2 3 0 0 0 0 ≡ bytes_of "table 3: a length does not fit n or the row count"
unfolding refusal_text about_table said_of saying_text saying_in sayings bytes_of fields field decimal digits
bad_length = refl

-- 12 of a link table's row, and as the index call gives it
pub bad_row_lem : refusal_text 12 2 40 0 0 0 ≡ bytes_of "table 2: bad far side or bad row: row 40"
unfolding refusal_text about_table said_of saying_text saying_in sayings sayings_from4 sayings_from8 sayings_from12 bytes_of fields field decimal digits
bad_row_lem = refl

pub bad_far_side_lem : refusal_text 12 0 0 0 0 0 ≡ bytes_of "bad far side or bad row"
unfolding refusal_text about_table said_of saying_text saying_in sayings sayings_from4 sayings_from8 sayings_from12 bytes_of fields
bad_far_side_lem = refl

pub bad_table_count : refusal_text 16 0 0 0 0 0 ≡ bytes_of "no tables or more than sixteen"
unfolding refusal_text about_table said_of saying_text saying_in sayings sayings_from4 sayings_from8 sayings_from12 sayings_from16 bytes_of fields
bad_table_count = refl

-- 17 of a link table's row, and of a cost table's row and column
pub above_old_row : refusal_text 17 2 40 0 0 0 ≡ bytes_of "table 2: number above the old limits: row 40"
unfolding refusal_text about_table said_of saying_text saying_in sayings sayings_from4 sayings_from8 sayings_from12 sayings_from16 bytes_of fields field decimal digits
above_old_row = refl

pub above_old_entry : refusal_text 17 0 3 12 0 0 ≡ bytes_of "number above the old limits: row and column 3 12"
unfolding refusal_text about_table said_of saying_text saying_in sayings sayings_from4 sayings_from8 sayings_from12 sayings_from16 bytes_of fields field decimal digits
above_old_entry = refl

-- 18 and 22 of Newick text, each with the place of a byte
pub outside_profile : refusal_text 18 0 5 0 0 0 ≡ bytes_of "outside the Newick profile: byte 5"
unfolding refusal_text about_table said_of saying_text saying_in sayings sayings_from4 sayings_from8 sayings_from12 sayings_from16 bytes_of fields field decimal digits
outside_profile = refl

pub out_of_order : refusal_text 22 0 10 0 0 0 ≡ bytes_of "siblings out of order: byte 10"
unfolding refusal_text about_table said_of saying_text saying_in sayings sayings_from4 sayings_from8 sayings_from12 sayings_from16 sayings_from20 bytes_of fields field
    decimal digits
out_of_order = refl

-- 20 of the second table of two
pub off_diagonal : refusal_text 20 2 3 12 0 0 ≡ bytes_of "table 2: zero off the diagonal: row and column 3 12"
unfolding refusal_text about_table said_of saying_text saying_in sayings sayings_from4 sayings_from8 sayings_from12 sayings_from16 sayings_from20 bytes_of fields field
    decimal digits
off_diagonal = refl

-- 21, whose fourth place is 0 and not said
pub no_levels : refusal_text 21 0 1 2 33 0 ≡ bytes_of "no levels: images 1 2 33"
unfolding refusal_text about_table said_of saying_text saying_in sayings sayings_from4 sayings_from8 sayings_from12 sayings_from16 sayings_from20 bytes_of fields field
    decimal digits
no_levels = refl

pub no_such : refusal_text 99 0 1 2 3 4 ≡ bytes_of "no such refusal: number 99"
unfolding refusal_text about_table said_of saying_text saying_in sayings sayings_from4 sayings_from8 sayings_from12 sayings_from16 sayings_from20 bytes_of fields field
    decimal digits
no_such = refl
