-- `routes::path` meets its contract: behind the checks stand a link table and two images. Assumes nothing.
use Rattle.std.proofs.Common.{arith}
use Rattle.climbing.specs.Laws.PathSums.{path_fits}
use Rattle.routes.specs.Laws.Accepted.{path-passed}
use Rattle.routes.proofs.path.Goals as goal

pub path_cost-requires : goal.path_cost-requires
path_cost-requires c = grind (arith, path-passed, path_fits)
