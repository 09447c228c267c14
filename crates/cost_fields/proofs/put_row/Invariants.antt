-- `cost_fields::put_row` meets its contract: each entry is put behind the one before. Assumes nothing.
use Rattle.std.proofs.Common.{◌+◌}
use Rattle.tables.specs.Entries.{costs_in}
use Rattle.bits.specs.Forms.{fields_of, field_bits}
use Rattle.bits.specs.Listed.{listed}
use Rattle.packer.specs.Gathering.{Put}
use Rattle.cost_fields.proofs.put_row.Given as goal

abbrev pub invariant-loop-k : goal.invariant-loop-k
invariant-loop-k l = Put (field_bits (fields_of l.w (listed (λ k'. costs_in l.t l.i (l.i + 1 + k')) l.k))) l.initial.out l.out l.initial.gathered l.gathered
