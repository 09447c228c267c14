-- `conversion::convert_links` meets its contract: the table that the reader leaves is stored anew. Assumes nothing.
use Rattle.conversion.proofs.Laws.Links.{read_stored, read_table}
use Rattle.conversion.proofs.convert_links.Goals as goal

pub store_links-requires : goal.store_links-requires
store_links-requires c = read_table c.args.bytes.now _ _ _ _ _ c.in_ok-read.ensures

pub returns : goal.returns
returns c = read_stored c.args.bytes.now _ _ _ _ _ c.in_ok-read.ensures c.args.edition c.args.out.now c.store_links.ensures
