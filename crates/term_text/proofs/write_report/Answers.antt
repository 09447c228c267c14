-- `term_text::write_report` meets its contract: the entries stand in front of the three arrays, and all lines fit. Assumes nothing.
use Rattle.std.proofs.Common.{arith}
use Rattle.term_text.specs.Laws.Left.{far_taken, report_fits, report_put, sum_taken, tree_taken}
use Rattle.term_text.proofs.write_report.Goals as goal

pub put_report-requires : goal.put_report-requires
put_report-requires c =
    let k = c.report-answer.auto in
    let l = c.report-answer.ensures in
    let f = far_taken _ c.report-answer.result _ _ _ k.fars k.trees k.sums l in (
      omega (arith, f, tree_taken _ c.report-answer.result _ _ _ k.fars k.trees k.sums l),
      omega (arith, f, sum_taken _ c.report-answer.result _ _ _ k.fars k.trees k.sums l),
      report_fits _ c.report-answer.result _ _ _ k.fars k.trees k.sums l _ c.requires,
    )

pub returns : goal.returns
returns c =
    let k = c.report-answer.auto in
    report_put _ c.report-answer.result _ _ _ k.fars k.trees k.sums c.report-answer.ensures _ _ _ c.put_report.ensures
