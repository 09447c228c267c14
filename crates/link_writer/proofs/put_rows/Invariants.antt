-- `link_writer::put_rows` meets its contract: each row is put behind the one before. Assumes nothing.
use Rattle.std.proofs.Common.{get_or, length, ◌≡◌}
use Rattle.bits.specs.Forms.{field_bits}
use Rattle.packer.specs.Gathering.{Put}
use Rattle.link_forms.specs.Form.{rows_to}
use Rattle.link_writer.proofs.put_rows.Given as goal

abbrev pub invariant-loop-k : goal.invariant-loop-k
invariant-loop-k l = (length l.out ≡ length l.initial.out) × Put (field_bits (rows_to l.w l.n (λ j. get_or l.fars j 0) (λ j. get_or l.costs j 0) l.k)) l.initial.out l.out l.initial.gathered l.gathered
