-- `batch::write_batch` meets its contract: the tables are put once all checks passed. Assumes nothing.
use Rattle.std.proofs.Common.{length, sym, ◌∙◌}
use Rattle.batch.specs.Laws.Answers.{batch_accepted}
use Rattle.link_forms.specs.Form.{link_form}
use Rattle.stored_links.proofs.Laws.Told.{form_limit}
use Rattle.batch.proofs.write_batch.Goals as goal

pub put_tables-requires : goal.put_tables-requires
put_tables-requires c =
    let a = c.args in
    let q = (batch_accepted (link_form a.edition) a.ns.now a.counts.now a.fars.now a.costs.now (form_limit a.edition)
    (length a.out.now) _).0 (sym c.check_batch.ensures ∙ c.in_ok-used.was) in
    (q.0, q.1)
