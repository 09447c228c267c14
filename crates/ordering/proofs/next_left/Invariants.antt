-- `ordering::next_left` meets its contract: the loop is the fold of its turns. Assumes nothing.
use Rattle.std.proofs.Common.{◌<◌, ◌≡◌}
use Rattle.ground.specs.Folds.{fold}
use Rattle.tables.specs.Entries.{costs_in}
use Rattle.ordering.specs.Next.{turn_next}
use Rattle.ordering.proofs.next_left.Given as goal

abbrev pub invariant-loop-w : goal.invariant-loop-w
invariant-loop-w l = (l.b ≡ fold (turn_next (costs_in l.t) l.f l.x l.placed) l.w l.f) × (l.b < l.t.n)
