-- `newick_line::write_links` meets its contract: the writer has room for every text, and the newline stands behind it. Assumes nothing.
use Rattle.newick_line.specs.Laws.Written.{line-ended, line_never, line_written}
use Rattle.newick_line.proofs.write_links.Goals as goal

pub put_byte-requires : goal.put_byte-requires
put_byte-requires c =
    let a = c.args in
    (line_written a.n a.fars.now a.costs.now a.out.now c.write_newick.new.out c.requires.0 c.requires.1 c.in-Ok.used c.in-Ok.ensures).1

pub returns-in-Err : goal.returns-in-Err
returns-in-Err c =
    let a = c.args in absurd (line_never a.n a.fars.now a.costs.now a.out.now c.write_newick.new.out c.requires.0 c.requires.1 _ c.in-Err.ensures)

pub returns-in-Ok : goal.returns-in-Ok
returns-in-Ok c =
    let a = c.args in
    let text = line_written a.n a.fars.now a.costs.now a.out.now c.write_newick.new.out c.requires.0 c.requires.1 c.in-Ok.used c.in-Ok.ensures in
    line-ended a.n a.fars.now a.costs.now a.out.now c.write_newick.new.out c.requires.0 c.requires.1 c.in-Ok.used text.0 c.put_byte.ensures
