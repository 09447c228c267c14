-- The listing of the stored cost table at the start of the bytes s, in either form, whatever follows it. Assumes nothing.
use Rattle.ground.specs.Refusals.{Check}
use Rattle.std.specs.Prelude.{List, ◌≡◌, ℕ, ◌≤◌, length, replicate, take}
use Rattle.ground.specs.Buffers.{front}
use Rattle.cost_forms.specs.Form.{cost_form_at}
use Rattle.cost_forms.specs.Said.{images_of, stored_table}
use Rattle.stored_costs.specs.Reading.{table_checks}
use Rattle.listing_lines.specs.Lines.{room}
use Rattle.listing_text.specs.declared.Last.{Last}
use Rattle.listing_text.specs.LastImage.{last_image}
use Rattle.table_text.specs.TableText.{table_text, text_if}

-- the images of the stored table that the bytes say in the form that they tell, and the table
abbrev pub images_said : List ℕ → ℕ
images_said s = images_of (cost_form_at s 0) s

abbrev pub table_said : List ℕ → List ℕ
table_said s = stored_table (cost_form_at s 0) (images_said s) s

-- 9, 1, 9, 11, 4, 20: the checks of a stored cost table in that form, where there is room for every table
abbrev pub stored_checks : List ℕ → Check
stored_checks s = table_checks (cost_form_at s 0) s

-- what the stored table's checks refuse, or what is said of the table that the bytes say
abbrev pub stored_text : (ℕ → List ℕ → List ℕ) → List ℕ → List ℕ
stored_text said s = text_if (stored_checks s) (said (images_said s) (table_said s))

-- the text of the cost table t, with the last image that is asked for
abbrev pub text_with : Last → ℕ → List ℕ → List ℕ
text_with which n t = table_text (last_image which n t) n t

-- the listing
unfoldable pub listing_text : Last → List ℕ → List ℕ
listing_text which s = stored_text (text_with which) s

-- what a call answers: the listing's length, and the listing in front of an array that is otherwise 0
pub record Listed (which : Last) (s : List ℕ) (size : ℕ) (text : List ℕ) : Type 0 where
  pub sized : size ≡ length (listing_text which s)
  pub listed : text ≡ front (listing_text which s) (replicate room 0)

-- the first size places of a text are there; both parts are said so that a caller who takes them needs no proof
abbrev pub Within : ℕ → List ℕ → Type 0
Within size text = (size ≤ length text) × (size ≡ length (take size text))
