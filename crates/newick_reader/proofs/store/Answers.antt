-- `newick_reader::store` meets its contract: everything is checked before the first store. Assumes nothing.
use Rattle.std.proofs.Common.{ap, arith, ◌∙◌}
use Rattle.tree.proofs.Laws.Writing.{rows-over}
use Rattle.newick_table.specs.Notes.{row_checks}
use Rattle.newick_table.specs.Laws.Collecting.{collect_few}
use Rattle.newick_reader.proofs.Laws.Outcomes.{rows_go}
use Rattle.newick_reader.proofs.store.Goals as goal

pub write_rows-requires : goal.write_rows-requires
write_rows-requires c =
    let few = collect_few _ _ _ _ _ _ _ c.requires.1 c.sort_rows-count.ensures in
    (omega arith, omega arith, omega arith, omega arith)

pub returns : goal.returns
returns c =
    let r = c.sort_rows-count.ensures in
    let few = collect_few _ _ _ _ _ _ _ c.requires.1 r in
    let checked = c.check_table.ensures ∙ ap (row_checks c.args.n c.args.fallen) r.rows in
    rows_go _ _ _ _ _ _ _ _ c.in_ok-check_table.was checked
    (rows-over _ _ _ _ _ _ _ _ r.rows (omega arith) (omega arith) c.write_rows.ensures.0 c.write_rows.ensures.1)
