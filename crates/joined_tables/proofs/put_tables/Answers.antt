-- `joined_tables::put_tables` meets its contract: each turn writes the next table into the rest of the lent bytes. Assumes nothing.
use Rattle.std.proofs.Common.{arith, length, length-drop, rules, sym, ℕ, ◌+◌, ◌≤◌}
use Rattle.ground.specs.Laws.Buffers.{rest_part}
use Rattle.link_forms.specs.Form.{link_form, link_used}
use Rattle.bits.specs.declared.Form.{Form}
use Rattle.joined_tables.proofs.Laws.Joined.{joined_end, joined-more}
use Rattle.joined_tables.specs.Laws.Next.{next-length}
use Rattle.joined_tables.proofs.Laws.Steps.{fits_step}
use Rattle.joined_tables.proofs.put_tables.Goals as goal

pub put_next-used-requires : goal.put_next-used-requires
put_next-used-requires c =
    let a = c.args in
    let l = c.loop-table in
    let next = fits_step (link_form a.edition) a.ns.now a.counts.now a.fars.now a.costs.now (length a.out.now) l.used l.rows l.table c.number_at-n.result
    c.number_at-count.result c.requires.0 c.loop-table-test.true (sym c.number_at-n.ensures) (sym c.number_at-count.ensures) l.invariant.3 in
    rw (rest_part l.out l.used, length-drop l.used l.out, l.invariant.0) next.0

pub loop-table-preserved : goal.loop-table-preserved
loop-table-preserved c =
    let form : Form = link_form c.args.edition in
    let n : ℕ = c.number_at-n.result in
    let count : ℕ = c.number_at-count.result in
    let a = c.args in
    let l = c.loop-table in
    let w = c.put_next-used.ensures in
    let next = fits_step form a.ns.now a.counts.now a.fars.now a.costs.now (length a.out.now) l.used l.rows l.table n
    count c.requires.0 c.loop-table-test.true (sym c.number_at-n.ensures) (sym c.number_at-count.ensures) l.invariant.3 in
    let within : l.used + link_used form n count ≤ length a.out.now = omega (arith, next.0.fits, l.invariant.1) in (
      search rules,
      omega (arith, w.0, within),
      omega (arith, (next-length _ _ _ _ _ _ next.0).0, length-drop l.rows a.fars.now, l.invariant.2),
      rw w.0 next.1,
      joined-more form a.ns.now a.counts.now a.fars.now a.costs.now (length a.out.now) l.used l.rows l.table n
          count c.requires.0 c.loop-table-test.true (sym c.number_at-n.ensures) (sym c.number_at-count.ensures) next.0 _
          l.out _ _ (omega (arith, l.invariant.0, l.invariant.1)) w.0 w.1 l.invariant.4,
    )

pub returns : goal.returns
returns c =
    let l = c.loop-table in
    let a = c.args in
    joined_end (link_form a.edition) a.ns.now a.counts.now a.fars.now a.costs.now _ l.out l.used l.rows l.table c.requires.0
    c.loop-table-test.false l.invariant.4
