-- `cost_fields::put_entries` meets its contract: each row is put behind the one before. Assumes nothing.
use Rattle.tables.specs.Entries.{costs_in}
use Rattle.bits.specs.Forms.{fields_of, field_bits}
use Rattle.packer.specs.Gathering.{Put}
use Rattle.cost_forms.specs.Entries.{entries_to}
use Rattle.cost_fields.proofs.put_entries.Given as goal

abbrev pub invariant-loop-i : goal.invariant-loop-i
invariant-loop-i l = Put (field_bits (fields_of l.w (entries_to (costs_in l.t) l.t.n l.i))) l.initial.out l.out l.initial.gathered l.gathered
