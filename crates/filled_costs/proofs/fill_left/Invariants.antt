-- `stored_costs::fill_left` meets its contract: what is read stands in a row above, which no store of this row alters. Assumes nothing.
use Rattle.std.proofs.Common.{length, ◌*◌, ◌+◌, ◌≡◌}
use Rattle.theory.specs.Tables.{cost}
use Rattle.bits.specs.Bits.{over_at}
use Rattle.bits.specs.Listed.{listed}
use Rattle.filled_costs.proofs.fill_left.Given as goal

abbrev pub invariant-loop-j : goal.invariant-loop-j
invariant-loop-j l = (length l.out ≡ length l.initial.out) × (l.above ≡ l.j * l.n + l.i) × (l.out ≡ over_at l.initial.out (l.i * l.n) (listed (λ k. cost l.initial.out l.n k l.i) l.j))
