-- What the readers answer, and what they leave in the lent slices. Assumes nothing.
use Rattle.stored_links.specs.declared.LinksRead.{LinksRead}
use Rattle.ground.specs.declared.Refusal.{Refusal}
use Rattle.std.specs.Prelude.{List, min, ℕ, ◌/◌, drop, length, Ok, Err, Result}
use Rattle.ground.specs.Outcomes.{front_if}
use Rattle.theory.specs.Outcomes.{RowsOutcome}
use Rattle.link_forms.specs.Form.{link_form_at}
use Rattle.stored_links.specs.Reading.{read_at_checks}
use Rattle.link_forms.specs.Said.{costs_of, count_of, fars_of, images_of, used_of}
use Rattle.ground.specs.Refusals.{if_passed, Check}
use Rattle.bits.specs.declared.Form.{Form}

-- what the reader answers: n, the row count and the bytes used by this table alone, or the refusal
abbrev pub StoredLinks : Type 0
StoredLinks = Result LinksRead Refusal

-- n, the row count and the bytes used where the check passed
abbrev pub table_if : Check → ℕ → ℕ → ℕ → StoredLinks
table_if c n N used = if_passed Err c (Ok (record { n = n; count = N; used = used }))

-- the answer for the bytes s, by the check
abbrev pub said_if : Check → Form → List ℕ → StoredLinks
said_if c form s = table_if c (images_of form s) (count_of form s) (used_of form s)

-- what reading at the position answers, where so many places are lent in each output: the table's numbers, or the first refusal
abbrev pub judged : Form → List ℕ → ℕ → ℕ → StoredLinks
judged form bytes position room = said_if (read_at_checks form bytes position room) form (drop (position / 8) bytes)

-- the answer, with the rows that s begins with at the front of the lent places where the check passed
abbrev pub rows_if : Check → Form → List ℕ → List ℕ → List ℕ → RowsOutcome StoredLinks
rows_if c form s f v =
    record {
      answer = said_if c form s;
      far_list = front_if c (fars_of form (images_of form s) (count_of form s) s) f;
      cost_list = front_if c (costs_of form (images_of form s) (count_of form s) s) v;
    }

-- what reading at the position answers and leaves in the far sides f and the costs v
abbrev pub read_outcome : Form → List ℕ → ℕ → List ℕ → List ℕ → RowsOutcome StoredLinks
read_outcome form bytes position f v = rows_if (read_at_checks form bytes position (min (length f) (length v))) form (drop (position / 8) bytes) f v

-- ## In either form: the one that the bytes tell

abbrev pub judged_either : List ℕ → ℕ → ℕ → StoredLinks
judged_either bytes position room = judged (link_form_at bytes position) bytes position room

abbrev pub read_either : List ℕ → ℕ → List ℕ → List ℕ → RowsOutcome StoredLinks
read_either bytes position f v = read_outcome (link_form_at bytes position) bytes position f v
