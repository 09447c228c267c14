-- `text::put_number` meets its contract: the digits of a tenth, then the last. Assumes nothing.
use Rattle.std.proofs.Common.{arith}
use Rattle.text.proofs.Laws.Numbers.{decimal-more}
use Rattle.text.specs.Laws.Putting.{put_then}
use Rattle.text.proofs.+put_number.Goals as goal

pub returns : goal.returns
returns t c = rw (decimal-more c.args.x c.if-x-lt10.false (omega arith)) (put_then c.put_number-last.ensures c.put_byte-2.ensures)
