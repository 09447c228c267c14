-- `report::take_read` meets its contract: 15, or the table is taken. Assumes nothing.
use Rattle.report.specs.Laws.Next.{moved_same, read_ready}
use Rattle.report.proofs.take_read.Goals as goal

pub returns : goal.returns
returns c =
    record {
      taken = λ ts y.
          moved_same ts _ _ _ _ _ y _ c.check_same.ensures _ _ _ _ c.in_ok-check_same.was
          (c.take_table.ensures.taken ts (read_ready ts _ _ _ _ _ y _ c.check_same.ensures c.in_ok-check_same.was));
    }
