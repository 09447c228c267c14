-- `term_text::put_report` meets its contract: five pieces, one behind the other. Assumes nothing.
use Rattle.text.specs.Laws.Putting.{put_then}
use Rattle.term_text.specs.Text.{report_with}
use Rattle.term_text.proofs.put_report.Goals as goal

pub returns : goal.returns
unfolding report_with
returns c = put_then c.put_figures-p.ensures (put_then c.put_pairs-q.ensures (put_then c.put_count-w.ensures (put_then c.put_sides-e.ensures c.put_end.ensures)))
