-- `stored_costs::fill` meets its contract: one row more of the table stands at the front of the lent places. Assumes nothing.
use Rattle.std.proofs.Common.{length, ◌*◌, ◌≡◌}
use Rattle.ground.specs.Buffers.{front}
use Rattle.bits.specs.Listed.{listed}
use Rattle.cost_forms.specs.Said.{entry_of}
use Rattle.filled_costs.specs.Laws.Filling.{place_cost}
use Rattle.filled_costs.proofs.fill.Given as goal

abbrev pub invariant-loop-i : goal.invariant-loop-i
invariant-loop-i l = (length l.out ≡ length l.initial.out) × (l.out ≡ front (listed (place_cost (entry_of l.form l.bytes) l.n) (l.i * l.n)) l.initial.out)
