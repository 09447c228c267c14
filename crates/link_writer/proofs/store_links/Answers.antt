-- `link_writer::store_links` meets its contract: the form is put once both checks passed. Assumes nothing.
use Rattle.std.proofs.Common.{length, sym, ◌∙◌, ◌≡◌, ◌≤◌}
use Rattle.link_forms.specs.Form.{link_form, link_used}
use Rattle.stored_links.proofs.Laws.Told.{form_limit, form_small}
use Rattle.link_forms.specs.Sizes.{Small}
use Rattle.theory.specs.Tables.{limit}
use Rattle.link_writer.specs.Laws.Accepted.{links_small, store_passed}
use Rattle.link_writer.specs.Writing.{store_checks}
use Rattle.link_writer.proofs.store_links.Goals as goal

pub check_store-requires : goal.check_store-requires
check_store-requires c =
    let small : Small (link_form c.args.edition) c.args.n (length c.args.fars.now) = let f = form_small c.args.edition in
    links_small (link_form c.args.edition) limit c.args.n c.args.fars.now c.args.costs.now f.0 f.1 c.requires in rw c.form_of.ensures (small, form_limit c.args.edition, c.requires.costed)

pub put_links-requires : goal.put_links-requires
put_links-requires c =
    let checked : c.check_store.result ≡ store_checks (link_form c.args.edition) c.args.n c.args.fars.now c.args.costs.now
    (length c.args.out.now) = rw c.form_of.ensures at c.check_store.ensures in
    let small : Small (link_form c.args.edition) c.args.n (length c.args.fars.now) = let f = form_small c.args.edition in
    links_small (link_form c.args.edition) limit c.args.n c.args.fars.now c.args.costs.now f.0 f.1 c.requires in
    let room : link_used (link_form c.args.edition) c.args.n (length c.args.fars.now)
    ≤ length c.args.out.now = let a = c.args in
    (store_passed (link_form a.edition) a.n (length a.fars.now) a.fars.now a.costs.now (length a.out.now)
    (sym checked ∙ c.in_ok-check_store.was)).1 in (record { small = small; fits = room }, c.requires.costed)
