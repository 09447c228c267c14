-- `recognition::can_graft` meets its contract: the own link, and then the formula gives the entries of the first i images placed before.
-- Assumes nothing.
use Rattle.std.proofs.Common.{true, ◌≡◌}
use Rattle.tables.specs.Entries.{costs_in}
use Rattle.recognition.specs.Recognition.{all_below, placed, recognised}
use Rattle.recognition.specs.Seats.{seat}
use Rattle.recognition.proofs.can_graft.Given as goal

abbrev pub invariant-loop-i : goal.invariant-loop-i
invariant-loop-i l = all_below (recognised (placed (costs_in l.t) (seat l.o)) l.p) l.i ≡ true
