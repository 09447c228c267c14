-- `newick_reader::read_newick` meets its contract: a text is looked through once, and nothing is stored before all checks passed. Assumes nothing.
use Rattle.std.proofs.Common.{arith}
use Rattle.newick_reader.proofs.Laws.Reading.{stopped_within, whole_fits, whole_read}
use Rattle.newick_reader.proofs.read_newick.Goals as goal

pub overflow_add-result : goal.overflow_add-result
overflow_add-result c =
    omega (arith, stopped_within c.args.text.now _ _ _ c.scan.ensures _ c.in-Err.is, c.well_formed.0.1)

pub finish-requires : goal.finish-requires
finish-requires c = whole_fits c.args.text.now _ _ _ c.scan.ensures _ c.in-Ok.is

pub returns-in-Ok : goal.returns-in-Ok
returns-in-Ok c =
    let a = c.args in
    whole_read a.text.now _ _ _ c.scan.ensures _ c.in-Ok.is a.fars.now a.costs.now _ _ _ c.finish.ensures
