-- What the reader answers, and what it leaves in the lent slice. Assumes nothing.
use Rattle.stored_costs.specs.declared.CostsRead.{CostsRead}
use Rattle.ground.specs.declared.Refusal.{Refusal}
use Rattle.std.specs.Prelude.{List, ℕ, ◌/◌, drop, length, Ok, Err, Result}
use Rattle.ground.specs.Outcomes.{Outcome, front_if}
use Rattle.cost_forms.specs.Form.{cost_form_at, cost_used}
use Rattle.cost_forms.specs.Said.{stored_table, images_of}
use Rattle.stored_costs.specs.Reading.{read_at_checks}
use Rattle.ground.specs.Refusals.{if_passed, Check}
use Rattle.bits.specs.declared.Form.{Form}

-- what the reader answers: n and the bytes used by this table alone, or the refusal
abbrev pub StoredCosts : Type 0
StoredCosts = Result CostsRead Refusal

-- n and the bytes used where the check passed
abbrev pub table_if : Check → ℕ → ℕ → StoredCosts
table_if c n used = if_passed Err c (Ok (record { n = n; used = used }))

-- what reading at the position answers, where so many places are lent: n and the bytes used by this table alone, or the first refusal
abbrev pub judged : Form → List ℕ → ℕ → ℕ → StoredCosts
judged form bytes position room =
    table_if (read_at_checks form bytes position room) (images_of form (drop (position / 8) bytes)) (cost_used form (images_of form (drop (position / 8) bytes)))

-- that answer, and the whole table at the front of the lent places
abbrev pub read_outcome : Form → List ℕ → ℕ → List ℕ → Outcome StoredCosts
read_outcome form bytes position out =
    record {
      answer = judged form bytes position (length out);
      places =
          front_if (read_at_checks form bytes position (length out))
          (stored_table form (images_of form (drop (position / 8) bytes)) (drop (position / 8) bytes)) out;
    }

-- ## In either form: the one that the bytes tell

abbrev pub judged_either : List ℕ → ℕ → ℕ → StoredCosts
judged_either bytes position room = judged (cost_form_at bytes position) bytes position room

abbrev pub read_either : List ℕ → ℕ → List ℕ → Outcome StoredCosts
read_either bytes position out = read_outcome (cost_form_at bytes position) bytes position out
