-- `levels::level_at` meets its contract: after j images members and next height are those among these. Assumes nothing.
use Rattle.std.proofs.Common.{suc, ◌≡◌}
use Rattle.theory.specs.Tables.{limit}
use Rattle.tables.specs.Entries.{costs_in}
use Rattle.levels.specs.Balls.{ball}
use Rattle.levels.proofs.Laws.Next.{next_to}
use Rattle.levels.proofs.level_at.Given as goal

abbrev pub invariant-loop-j : goal.invariant-loop-j
invariant-loop-j l = (l.level.members ≡ ball (costs_in l.t) l.j l.k l.h) × (l.level.next ≡ next_to limit (costs_in l.t) l.k (suc l.h) l.j)
