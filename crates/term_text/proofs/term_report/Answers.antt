-- `term_text::term_report` meets its contract: the text stands in front of an array of zeros. Assumes nothing.
use Rattle.term_text.specs.Promises.{put_printed}
use Rattle.term_text.proofs.term_report.Goals as goal

pub returns-clause-printed : goal.returns-clause-printed
returns-clause-printed c = put_printed _ c.write_report-length.ensures
