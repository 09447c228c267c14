-- `climbing::upper` meets its contract: the first row from k on that contains row r is the first of all later ones. Assumes nothing.
use Rattle.std.proofs.Common.{rules}
use Rattle.climbing.specs.Laws.UpperRows.{uppers-at}
use Rattle.climbing.proofs.upper.Goals as goal

pub loop-k-init : goal.loop-k-init
loop-k-init c = uppers-at c.args.fars.now c.args.r (search rules)
