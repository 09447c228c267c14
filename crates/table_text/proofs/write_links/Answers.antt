-- `table_text::write_links` meets its contract: both calls accept, so that upper rows and order stand in the local arrays. Assumes nothing.
use Rattle.table_text.proofs.Laws.Read.{order_read, upper_read}
use Rattle.table_text.proofs.write_links.Goals as goal

pub returns : goal.returns
returns c =
    let a = c.args in
    rw (
      upper_read a.t.now a.fars.now a.costs.now c.requires.1 c.upper_rows.new.out _ c.upper_rows.ensures,
      order_read a.t.now a.last c.requires.0 c.order.new.out _ c.order.ensures,
    ) at c.put_reading.ensures
