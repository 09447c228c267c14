-- The struct of numbers for the answer of a term report: where a table was refused, it has the figures of those before it. Assumes nothing.
use Rattle.report.specs.Outcome.{Report}
use Rattle.ground.specs.Refusals.{Check}
use Rattle.std.specs.Prelude.{ℕ, Ok, Err}
use Rattle.numbers.specs.Heads.{accepted, refused}
use Rattle.numbers.specs.declared.KemotuikiHead.{KemotuikiHead}
use Rattle.numbers.specs.declared.KemotuikiReport.{KemotuikiReport}

-- accepted, or the refusal with the number of the table
abbrev pub of_end : ℕ → Check → KemotuikiHead
of_end k (Ok tt) = accepted
of_end k (Err r) = refused k r

-- the figures beside it
abbrev pub of_report : Report → KemotuikiReport
of_report x = record {
  head = of_end x.table x.stop;
  images = x.figures.images;
  tables = x.figures.tables;
  accepted = x.figures.accepted;
  apart = x.figures.apart;
  sides = x.figures.sides;
  pairs = x.figures.pairs;
  count_sum = x.figures.count_sum;
  largest_count = x.figures.largest_count;
  used = x.figures.used;
}
