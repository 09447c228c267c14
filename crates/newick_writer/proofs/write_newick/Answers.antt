-- `newick_writer::write_newick` meets its contract: what has upper rows is a link table, and these are the ones that its text is written by.
-- Assumes nothing.
use Rattle.newick_writer.proofs.Laws.Accepted.{uppers_known, uppers_written}
use Rattle.newick_writer.proofs.write_newick.Goals as goal

pub write_rows-requires : goal.write_rows-requires
write_rows-requires c = uppers_known c.args.n c.args.count _ _ c.upper_rows.ensures c.in_ok-upper_rows.was

pub returns : goal.returns
returns c =
    uppers_written c.args.n c.args.count _ _ c.upper_rows.ensures c.in_ok-upper_rows.was _ c.write_rows.ensures
