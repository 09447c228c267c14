-- What document 01 says of stored cost tables, in the words of the calls: of both forms at once, e and g being either. Assumes nothing.
use Rattle.std.specs.Prelude.{List, ◌++◌, ℕ, drop, take}
use Rattle.bits.specs.declared.Edition.{Edition}
use Rattle.cost_writer.specs.Writing.{write_outcome}
use Rattle.cost_forms.specs.Form.{cost_form, cost_used}

-- Two tables that two calls wrote, the second into the rest of the lent bytes, are read one after the other: the bytes as both calls left them.
abbrev pub both_written : (e g : Edition) (m n : ℕ) (t u out : List ℕ) → List ℕ
both_written e g m n t u out =
    let first = (write_outcome (cost_form e) m t out).places in
    take (cost_used (cost_form e) m) first ++ (write_outcome (cost_form g) n u (drop (cost_used (cost_form e) m) first)).places
