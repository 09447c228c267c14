-- `climbing::climb`: what falls is the number of rows above.
use Rattle.std.proofs.Common.{length, ◌-◌}
use Rattle.climbing.proofs.+climb.Given as goal

abbrev pub decreases-climb : goal.decreases-climb
decreases-climb l = length l.fars.now - l.row
