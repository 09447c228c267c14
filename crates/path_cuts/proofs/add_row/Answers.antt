-- `path_cuts::add_row` meets its contract: stored behind the last row where it has a cost. Assumes nothing.
use Rattle.std.proofs.Common.{arith}
use Rattle.path_cuts.specs.Laws.Keeping.{add-some}
use Rattle.path_cuts.proofs.add_row.Goals as goal

pub returns : goal.returns
returns c = add-some _ _ _ _ _ c.requires.0 c.requires.1 (omega arith)
