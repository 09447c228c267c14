-- `link_writer::write_links` meets its contract: what is known to be a link table is stored. Assumes nothing.
use Rattle.std.specs.Prelude.{Ok}
use Rattle.std.proofs.Common.{subst, sym, ℕ, ◌∙◌, ◌≡◌}
use Rattle.ground.specs.Refusals.{◌then◌}
use Rattle.theory.specs.Tables.{limit}
use Rattle.links.specs.Checks.{row_checks, size_checks}
use Rattle.links.specs.Laws.LinkChecks.{link_checks_lem}
use Rattle.links.specs.Links.{Links}
use Rattle.link_writer.proofs.write_links.Goals as goal

pub store_links-requires : goal.store_links-requires
store_links-requires c =
    let passed : (size_checks c.args.n c.args.count c.args.fars.now
    c.args.costs.now then row_checks limit c.args.n c.args.fars.now
    c.args.costs.now) ≡ (Ok tt) = sym c.check_table.ensures ∙ c.in_ok-check_table.was in
    let a = c.args in
    let t = (link_checks_lem limit a.n a.count a.fars.now a.costs.now).0 passed in
    subst (λ (x : ℕ). Links limit a.n x a.fars.now a.costs.now) (sym t.counted) t
