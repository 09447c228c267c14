-- `kemotuiki::kemotuiki_report` meets its contract: the numbers of what the call promises, and the lent slices as it leaves them. Assumes nothing.
use Rattle.kemotuiki.specs.Laws.Crossing.{left_report}
use Rattle.numbers.specs.Reports.{of_report}
use Rattle.kemotuiki.proofs.kemotuiki_report.Goals as goal

pub returns : goal.returns
returns c =
    left_report of_report _ c.report.ensures c.into.ensures
