-- `newick_reader::finish` meets its contract: the rows are looked at once the names passed. Assumes nothing.
use Rattle.std.proofs.Common.{arith, sym, ◌∙◌}
use Rattle.newick_reader.proofs.Laws.Outcomes.{marked-some, names-passed}
use Rattle.newick_reader.proofs.finish.Goals as goal

pub store-requires : goal.store-requires
store-requires c =
    let q = names-passed c.args.n c.args.marked c.min.result (sym c.check_names.ensures ∙ c.in_ok-check_names.was) in
    let p = c.requires in
    (marked-some _ _ _ q, p.0, p.1, omega arith, omega arith, p.3, p.4)
