-- `chains::images` meets its contract: the images below z took their turn. Assumes nothing.
use Rattle.std.proofs.Common.{arith, ◌≡◌}
use Rattle.chains.specs.Laws.Walked.{least_end}
use Rattle.chains.proofs.images.Goals as goal

pub returns : goal.returns
returns c =
    let e : c.loop-z.z ≡ c.args.k = omega arith in
    least_end _ _ _ _ _ c.requires.1.chained _ (rw e at c.loop-z.invariant.1)
