-- `recognition::can_graft_all` meets its contract: all images up to place p can be grafted. Assumes nothing.
use Rattle.std.proofs.Common.{true, ◌≡◌}
use Rattle.tables.specs.Entries.{costs_in}
use Rattle.recognition.specs.Recognition.{all_graft, placed}
use Rattle.recognition.specs.Seats.{seat}
use Rattle.recognition.proofs.can_graft_all.Given as goal

abbrev pub invariant-loop-p : goal.invariant-loop-p
invariant-loop-p l = all_graft (placed (costs_in l.t) (seat l.o)) l.p ≡ true
