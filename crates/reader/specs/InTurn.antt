-- One reader takes two cost tables, or two fields, one after the other: the second where it stands after the first. Assumes nothing.
use Rattle.std.specs.Prelude.{List, ℕ}
use Rattle.ground.specs.Outcomes.{Outcome}
use Rattle.positions.specs.Fields.{field_at}
use Rattle.positions.specs.Stands.{costs_at}
use Rattle.positions.specs.declared.CostsTaken.{CostsTaken}
use Rattle.positions.specs.declared.FieldTaken.{FieldTaken}
use Rattle.reader.specs.Outcomes.{TwoOutcome}
use Rattle.reader.specs.declared.TwoFields.{TwoFields}
use Rattle.reader.specs.declared.TwoTaken.{TwoTaken}

-- both answers, with where the reader stands after each, and what is left in the places of each
abbrev pub both_taken : Outcome CostsTaken → Outcome CostsTaken → TwoOutcome TwoTaken
both_taken o p =
    record {
      answer = record { first = o.answer.table; between = o.answer.position; second = p.answer.table; position = p.answer.position };
      first_list = o.places;
      second_list = p.places;
    }

-- the two cost tables from the position on, into the places f and g
abbrev pub costs_in_turn : List ℕ → ℕ → List ℕ → List ℕ → TwoOutcome TwoTaken
costs_in_turn bytes position f g = both_taken (costs_at bytes position f) (costs_at bytes (costs_at bytes position f).answer.position g)

abbrev pub both_fields : FieldTaken → FieldTaken → TwoFields
both_fields o p = record { first = o.field; between = o.position; second = p.field; position = p.position }

-- the two fields from the position on, of i and of j bits
abbrev pub fields_in_turn : List ℕ → ℕ → ℕ → ℕ → TwoFields
fields_in_turn bytes position i j = both_fields (field_at bytes position i) (field_at bytes (field_at bytes position i).position j)
