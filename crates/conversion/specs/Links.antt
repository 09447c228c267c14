-- A stored link table in another form: what the conversion of the lent bytes s answers and leaves, e being the form that is asked for.
-- Assumes nothing.
use Rattle.std.specs.Prelude.{List, ◌≡◌, ℕ, ◌*◌, ◌<◌, ◌≤◌, get_or, length, Ok}
use Rattle.ground.specs.Outcomes.{Outcome}
use Rattle.ground.specs.Refusals.{◌then◌, Check, Written}
use Rattle.bits.specs.declared.Edition.{Edition}
use Rattle.link_forms.specs.Form.{link_form, link_form_at, link_used}
use Rattle.stored_links.specs.Reading.{table_checks}
use Rattle.link_forms.specs.Said.{costs_of, count_of, fars_of, images_of}
use Rattle.link_writer.specs.Writing.{store_checks, stored_if}

-- the images and the row count of the table that s begins with, in the form that it tells
abbrev pub images_said : List ℕ → ℕ
images_said s = images_of (link_form_at s 0) s

abbrev pub count_said : List ℕ → ℕ
count_said s = count_of (link_form_at s 0) s

-- its far sides, and its doubled costs
abbrev pub fars_said : List ℕ → List ℕ
fars_said s = fars_of (link_form_at s 0) (images_said s) (count_said s) s

abbrev pub costs_said : List ℕ → List ℕ
costs_said s = costs_of (link_form_at s 0) (images_said s) (count_said s) s

-- the bytes that it uses in the form e
abbrev pub used_in : Edition → List ℕ → ℕ
used_in e s = link_used (link_form e) (images_said s) (count_said s)

-- 9, 1, 10, 9, 11, 12, 13, 17, 3: the reader's without 3, then those of the form that is asked for
abbrev pub link_checks : Edition → List ℕ → ℕ → Check
link_checks e s room = table_checks (link_form_at s 0) s then store_checks (link_form e) (images_said s) (fars_said s) (costs_said s) room

-- the bytes used in that form, and its bytes at the front of the lent ones
abbrev pub links_converted : Edition → List ℕ → List ℕ → Outcome Written
links_converted e s out = stored_if (link_checks e s (length out)) (link_form e) (images_said s) (fars_said s) (costs_said s) out

-- ## In words

-- the bytes begin with a stored link table
abbrev pub Begins : List ℕ → Type 0
Begins s = table_checks (link_form_at s 0) s ≡ Ok tt

-- every doubled cost of it is within twice the limit of the form e
abbrev pub CostsFit : Edition → List ℕ → Type 0
CostsFit e s = (k : ℕ) → k < length (costs_said s) → get_or (costs_said s) k 0 ≤ 2 * (link_form e).limit
