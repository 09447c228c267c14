-- `batch::check_tables` meets its contract: each turn looks at the next table, with the rows and the room that are left. Assumes nothing.
use Rattle.std.specs.Prelude.{Ok, MatchResult}
use Rattle.std.proofs.Common.{ap, arith, drop, length, length-drop, rules, sym, ℕ, ◌+◌, ◌-◌, ◌∙◌, ◌≡◌}
use Rattle.ground.specs.Refusals.{refused_in}
use Rattle.joined_tables.specs.Fitting.{NextFits}
use Rattle.joined_tables.specs.Laws.Next.{next-length, next-passed}
use Rattle.joined_tables.specs.Tables.{left_over_checks}
use Rattle.batch.specs.Batch.{numbered}
use Rattle.batch.specs.Laws.Steps.{answer_end, answer_goes, answer_stops, answer_at}
use Rattle.link_forms.specs.Form.{link_form}
use Rattle.batch.proofs.check_tables.Goals as goal

pub returns-in_err-map_err : goal.returns-in_err-map_err
returns-in_err-map_err c =
    let a = c.args in
    let l = c.loop-i in
    let told : MatchResult c.check_from-looked.result (λ o. ⊥) (λ r. c.from_residual.result ≡ refused_in (l.i-counter + 1) r) = search rules in
    answer_stops (link_form a.edition) a.ns.now a.counts.now a.fars.now a.costs.now a.room l.used l.rows l.i-counter _ _ c.requires
    c.loop-i-test.true (sym c.number_at-n.ensures) (sym c.number_at-count.ensures) told c.check_from-looked.ensures
    ∙ sym l.invariant.3

pub loop-i-preserved : goal.loop-i-preserved
loop-i-preserved c =
    let a = c.args in
    let l = c.loop-i in
    let i = l.invariant in
    let form = link_form a.edition in
    let count : ℕ = c.number_at-count.result in
    let was : c.check_from-looked.result ≡ Ok tt = search rules in
    let p : NextFits form c.number_at-n.result count (drop l.rows a.fars.now) (drop l.rows a.costs.now) (a.room - l.used) = next-passed _ _ _ _ _ _ (sym c.check_from-looked.ensures ∙ was) in
    let z = next-length _ _ _ _ _ _ p in (
      omega (arith, z.0, length-drop l.rows a.fars.now, i.0),
      omega (arith, z.1, length-drop l.rows a.costs.now, i.1),
      omega (arith, c.links_used-used.ensures, p.fits, i.2),
      i.3
          ∙ answer_goes form a.ns.now a.counts.now a.fars.now a.costs.now a.room l.used l.rows l.i-counter _ _ c.requires
          c.loop-i-test.true (sym c.number_at-n.ensures) (sym c.number_at-count.ensures) was c.check_from-looked.ensures
          ∙ ap (λ (x : ℕ). answer_at form a.ns.now a.counts.now a.fars.now a.costs.now a.room (l.used + x) (l.rows + count) (l.i-counter + 1))
          (sym c.links_used-used.ensures),
    )

pub returns : goal.returns
returns c =
    let l = c.loop-i in
    let a = c.args in
    let e : length a.ns.now ≡ l.i-counter = omega arith in
    c.check_end.ensures
    ∙ ap (λ (k : ℕ). numbered k (left_over_checks (drop l.rows a.fars.now) (drop l.rows a.costs.now)) (Ok l.used)) e
    ∙ sym (l.invariant.3
    ∙ answer_end (link_form a.edition) a.ns.now a.counts.now a.fars.now a.costs.now a.room l.used l.rows l.i-counter c.requires c.loop-i-test.false)
