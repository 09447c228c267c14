-- `conversion::put_entries` meets its contract: each entry is taken and put directly behind the one before. Assumes nothing.
use Rattle.bits.specs.Forms.{field_bits, fields_of}
use Rattle.bits.specs.Listed.{listed}
use Rattle.packer.specs.Gathering.{Put}
use Rattle.cost_forms.specs.Said.{entry_of}
use Rattle.conversion.proofs.put_entries.Given as goal

abbrev pub invariant-loop-k : goal.invariant-loop-k
invariant-loop-k l = Put (field_bits (fields_of l.w (listed (entry_of l.from l.bytes) l.k))) l.initial.out l.out l.initial.gathered l.gathered
