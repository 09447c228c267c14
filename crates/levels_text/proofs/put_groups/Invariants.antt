-- `levels_text::put_groups` meets its contract: what is left to write loses its first line in each turn. Assumes nothing.
use Rattle.levels_text.proofs.Laws.Turns.{GroupsLeft}
use Rattle.levels_text.proofs.put_groups.Given as goal

abbrev pub invariant-loop-i : goal.invariant-loop-i
invariant-loop-i l = GroupsLeft l.n l.members l.heights l.i l.place l.out l.at l.initial.out
